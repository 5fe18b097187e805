-- The worked histories, computed; and each wrong card answers otherwise than the rules, at a byte that is computed.
use Prim.Native.Nat.{ℕ}
use mathlib.Core.Path.{◌≡◌, refl, sym, ap, ◌∙◌}
use mathlib.Core.List.{List, [], ◌∷◌}
use native.Mathlib.Omega.{arith}
use lib.ListN.{get_or}
use Rattle.token.specs.Bytes.{within, be_val, number_at, be_of}
use Rattle.token.specs.Token.{lead_of, atom_of, medium_of, long_of, form_of, token_of, is_control}
use Rattle.token.specs.Write.{enc_int, size_of, head_of, enc_bytes}
use Rattle.value.specs.Read.{then, end_of, mark_of, atom_is, end_or, values_by, list_by, named_by, nest_by, value_of, value_by}
use Rattle.packet.specs.Envelope.{packet_of, header, pad_of, sealed, opened_of}
use Rattle.payload.specs.Payload.{uid_is, int_is, list_is, status_at, call_at, finish_is, starts_by, is_end, last_of}
use Rattle.ranges.specs.Decides.{all}
use Rattle.ranges.specs.Fit.{fit_b}
use Rattle.ranges.specs.Set.{set_ok, edited_row}
use Rattle.ranges.specs.Reset.{reset_rows, reset_mbr}
use Rattle.tape.specs.Write.{enc_atom, enc_value, enc_values}
use Rattle.item.specs.Item.{slot_of}
use Rattle.params.specs.Names.{names, inner, optional, beyond, nothing, given, is_int, is_bytes, is_uid, or_left_out, int_of, uid_of}
use Rattle.params.specs.Columns.{free, put_column, put_item, put_items}
use Rattle.params.specs.Params.{start_from, start_of, block_of, block_in, get_of, columns_in, values_in, set_of, proof_from, proof_of, resets_of}
use Rattle.model.specs.Sound.{sound, tables_ok, tries_ok, session_ok, secret_ok, secrets_ok, blank_row, blank_mbr, blank_tables, blank_secrets, undo_ok}
use Rattle.model.specs.Uids.{method_of, object_in, who_in}
use Rattle.model.specs.Uids as U
use Rattle.model.specs.Access.{kind_of, access_rows, any_proved, holds, self_of, some_row, last_column}
use Rattle.model.specs.Judge.{need, place_of, count_of, judge_who, known, signer, judge_start, judge_manager, judge_proof, bound_of, judge_get, is_number, number_in, is_flag, flag_in, allowed_set, with_program, is_resets, resets_in, is_pin, pin_change, flag_change, values_ok, change_in, judge_set, judge_bare, revert_of, activate_on, judge_method}
use Rattle.model.specs.Vault.{same, decided, obey_change, obey}
use Rattle.model.specs.Apply.{proving, cleared, change, apply}
use Rattle.model.specs.Answer.{status_number, cell_past0, told, answer}
use Rattle.model.specs.Step.{hear_manager, judge_session, hear_packet, heard, broke, reply_to, power, reset, media, next, run}
use Rattle.model.specs.Seen.{sees, trace}
use Rattle.histories.specs.Worked.{Worked, WorkedLocking, card, locking, start, out, inside, fa, set, named, get}
use Rattle.histories.specs.Wrong.{rules, refuser, fixed, forgetful, committing, hasty, inventive, answers_of, ShutOut}
use Rattle.model.specs.Step.{Event}

pub worked : Worked
unfolding within be_val number_at be_of lead_of atom_of medium_of long_of form_of token_of is_control enc_int size_of head_of enc_bytes then end_of mark_of atom_is end_or values_by list_by named_by nest_by value_of value_by packet_of header pad_of sealed opened_of uid_is int_is list_is status_at call_at finish_is starts_by is_end last_of all fit_b set_ok edited_row reset_rows reset_mbr enc_atom enc_value enc_values slot_of names inner optional beyond nothing given is_int is_bytes is_uid or_left_out int_of uid_of free put_column put_item put_items start_from start_of block_of block_in get_of columns_in values_in set_of proof_from proof_of resets_of sound tables_ok tries_ok session_ok secret_ok secrets_ok blank_row blank_mbr blank_tables blank_secrets undo_ok method_of object_in who_in U.uid_of kind_of access_rows any_proved holds self_of some_row last_column need place_of count_of judge_who known signer judge_start judge_manager judge_proof bound_of judge_get is_number number_in is_flag flag_in allowed_set with_program is_resets resets_in is_pin pin_change flag_change values_ok change_in judge_set judge_bare revert_of activate_on judge_method same decided obey_change obey proving cleared change apply status_number cell_past0 told answer hear_manager judge_session hear_packet heard broke reply_to power reset media next sees trace run
worked = record { session = refl; ownership = refl; lockout = refl; reading = refl; manager = refl; broken = refl; activation = refl }

pub worked-locking : WorkedLocking
unfolding within be_val number_at be_of lead_of atom_of medium_of long_of form_of token_of is_control enc_int size_of head_of enc_bytes then end_of mark_of atom_is end_or values_by list_by named_by nest_by value_of value_by packet_of header pad_of sealed opened_of uid_is int_is list_is status_at call_at finish_is starts_by is_end last_of all fit_b set_ok edited_row reset_rows reset_mbr enc_atom enc_value enc_values slot_of names inner optional beyond nothing given is_int is_bytes is_uid or_left_out int_of uid_of free put_column put_item put_items start_from start_of block_of block_in get_of columns_in values_in set_of proof_from proof_of resets_of sound tables_ok tries_ok session_ok secret_ok secrets_ok blank_row blank_mbr blank_tables blank_secrets undo_ok method_of object_in who_in U.uid_of kind_of access_rows any_proved holds self_of some_row last_column need place_of count_of judge_who known signer judge_start judge_manager judge_proof bound_of judge_get is_number number_in is_flag flag_in allowed_set with_program is_resets resets_in is_pin pin_change flag_change values_ok change_in judge_set judge_bare revert_of activate_on judge_method same decided obey_change obey proving cleared change apply status_number cell_past0 told answer hear_manager judge_session hear_packet heard broke reply_to power reset media next sees trace run
worked-locking = record { ranges = refl; transaction = refl; power = refl; users = refl }

-- byte j of answer i
abbrev byte : List (List ℕ) → ℕ → ℕ → ℕ
byte l i j = get_or (get_or l i []) j 0

differ : (a b : List (List ℕ)) (i j x y : ℕ) → byte a i j ≡ x → byte b i j ≡ y → (x ≡ y → ⊥) → a ≡ b → ⊥
differ a b i j x y p q n e = n (sym p ∙ ap (λ (l : List (List ℕ)). byte l i j) e ∙ q)

-- a session opened and ended
abbrev twice : List Event
twice = out (start U.admin_sp []) ∷ inside 1 fa ∷ []

-- a Set, and a Get of it
abbrev stored : List Event
stored = inside 2 (set U.global_range (named 0x05 (0x01 ∷ []))) ∷ inside 2 (get U.global_range 0x05 0x05) ∷ []

-- a Set in a transaction that is abandoned, and a Get of it
abbrev undone : List Event
undone =
    inside 2 (0xfb ∷ 0x00 ∷ [])
    ∷ inside 2 (set U.global_range (named 0x05 (0x01 ∷ [])))
    ∷ inside 2 (0xfc ∷ 0x01 ∷ [])
    ∷ inside 2 (get U.global_range 0x05 0x05)
    ∷ []

pub shut_out : ShutOut
unfolding within be_val number_at be_of lead_of atom_of medium_of long_of form_of token_of is_control enc_int size_of head_of enc_bytes then end_of mark_of atom_is end_or values_by list_by named_by nest_by value_of value_by packet_of header pad_of sealed opened_of uid_is int_is list_is status_at call_at finish_is starts_by is_end last_of all fit_b set_ok edited_row reset_rows reset_mbr enc_atom enc_value enc_values slot_of names inner optional beyond nothing given is_int is_bytes is_uid or_left_out int_of uid_of free put_column put_item put_items start_from start_of block_of block_in get_of columns_in values_in set_of proof_from proof_of resets_of sound tables_ok tries_ok session_ok secret_ok secrets_ok blank_row blank_mbr blank_tables blank_secrets undo_ok method_of object_in who_in U.uid_of kind_of access_rows any_proved holds self_of some_row last_column need place_of count_of judge_who known signer judge_start judge_manager judge_proof bound_of judge_get is_number number_in is_flag flag_in allowed_set with_program is_resets resets_in is_pin pin_change flag_change values_ok change_in judge_set judge_bare revert_of activate_on judge_method same decided obey_change obey proving cleared change apply status_number cell_past0 told answer hear_manager judge_session hear_packet heard broke reply_to power reset media next sees trace run rules refuser fixed forgetful committing hasty inventive answers_of
shut_out = record {
  refuses_all = (twice, differ (answers_of refuser card twice) (answers_of rules card twice) 0 56 0xf0 0xf8 refl refl (λ h. omega arith));
  one_answer = λ bytes. (
    twice,
    (λ e.
        let a : get_or bytes 56 0 ≡ 0xf8 = ap (λ (l : List (List ℕ)). byte l 0 56) e in
        let b : get_or bytes 56 0 ≡ 0xfa = ap (λ (l : List (List ℕ)). byte l 1 56) e in
        omega arith),
  );
  stores_nothing = (stored, differ (answers_of forgetful locking stored) (answers_of rules locking stored) 1 60 0x00 0x01 refl refl (λ h. omega arith));
  commits_early = (undone, differ (answers_of hasty locking undone) (answers_of rules locking undone) 3 60 0x01 0x00 refl refl (λ h. omega arith));
  invents_count = (twice, differ (answers_of inventive card twice) (answers_of rules card twice) 0 19 0x45 0x44 refl refl (λ h. omega arith));
  sums = (out (start U.admin_sp []), refl);
}
