-- The witnesses: two cards whose SID's PIN differs, and a transaction of Admin1, computed.
use Rattle.std.specs.Prelude.{Option, Some, None}
use Prim.Native.Nat.{ℕ, ◌+◌}
use mathlib.Core.Path.{◌≡◌, refl, sym, ap, ◌∙◌}
use mathlib.Core.Bool.{Bool, true, false, true≢false}
use mathlib.Core.List.{List, [], ◌∷◌}
use mathlib.Core.Logic.{inl, inr}
use native.Mathlib.Omega.{arith}
use lib.ListN.{get_or, take, set as put}
use lib.Dec.{lit≤}
use Rattle.payload.specs.declared.Payload.{Payload}
use Rattle.payload.specs.declared.Payload.TheVariants as P
use Rattle.payload.specs.Payload.{payload_at}
use Rattle.token.specs.Bytes.{within, be_val, number_at, be_of}
use Rattle.token.specs.Token.{lead_of, atom_of, medium_of, long_of, form_of, token_of, is_control}
use Rattle.token.specs.Write.{enc_int, size_of, head_of, enc_bytes}
use Rattle.value.specs.Read.{then, end_of, mark_of, atom_is, end_or, values_by, list_by, named_by, nest_by, value_of, value_by}
use Rattle.packet.specs.Envelope.{packet_of, header, pad_of, sealed, opened_of}
use Rattle.payload.specs.Payload.{uid_is, int_is, list_is, status_at, call_at, finish_is, starts_by, is_end, last_of}
use Rattle.ranges.specs.Decides.{all}
use Rattle.ranges.specs.Row.{row_at}
use Rattle.ranges.specs.Fit.{fit_b}
use Rattle.ranges.specs.Set.{set_ok, edited_row}
use Rattle.ranges.specs.Reset.{reset_rows, reset_mbr}
use Rattle.tape.specs.Write.{enc_atom, enc_value, enc_values}
use Rattle.item.specs.Item.{slot_of}
use Rattle.params.specs.Names.{names, inner, optional, beyond, nothing, given, is_int, is_bytes, is_uid, or_left_out, int_of, uid_of}
use Rattle.params.specs.Columns.{free, put_column, put_item, put_items}
use Rattle.params.specs.Params.{start_from, start_of, block_of, block_in, get_of, columns_in, values_in, set_of, proof_from, proof_of, resets_of}
use Rattle.model.specs.Sound.{sound, tables_ok, tries_ok, session_ok, secret_ok, secrets_ok, blank_row, blank_mbr, blank_tables, blank_secrets, undo_ok}
use Rattle.model.specs.Uids.{method_of, object_in, who_in}
use Rattle.model.specs.Uids as U
use Rattle.model.specs.Access.{kind_of, access_rows, any_proved, holds, self_of, some_row, last_column}
use Rattle.model.specs.Judge.{need, place_of, count_of, judge_who, known, signer, judge_start, judge_manager, judge_proof, bound_of, judge_get, is_number, number_in, is_flag, flag_in, allowed_set, with_program, is_resets, resets_in, is_pin, pin_change, flag_change, values_ok, change_in, judge_set, judge_bare, revert_of, activate_on, judge_method}
use Rattle.model.specs.Vault.{same, decided, obey_change, obey}
use Rattle.model.specs.Apply.{proving, cleared, change, apply}
use Rattle.model.specs.Answer.{status_number, cell_past0, told, answer}
use Rattle.model.specs.Step.{hear_manager, judge_session, hear_packet, heard, broke, reply_to, power, reset, media, next, run}
use Rattle.model.specs.Seen.{sees, trace}
use Rattle.model.specs.Step.{Event}
use Rattle.packet.specs.declared.Tsn.{Tsn}
use Rattle.packet.specs.declared.Hsn.{Hsn}
use Rattle.packet.specs.declared.Packet.{Packet}
use Rattle.model.specs.declared.Card.{Card}
use Rattle.model.specs.Record as R
use Rattle.model.specs.Step.{packet, powered, was_reset, asked}
use Rattle.model.specs.Seen.{Sight, Answered, not_asked, said, answered, of_heard, of_judged}
use Rattle.model.specs.Sent.{Sent}
use Rattle.model.proofs.Numbered.{is_call}
use Rattle.model.proofs.SoundStep.{sound-step}
use Rattle.model.proofs.Secrecy.{secrecy}
use Rattle.model.specs.Laws.{AnsweredAlike, Leaves}
use Rattle.histories.specs.Worked as H
use Rattle.histories.specs.Speaks.{SecrecySpeaks, TransactionsSpeak}

-- ---- a call never ends a transaction
abbrev is_packet : Event → Bool
is_packet (packet room s) = true
is_packet powered = false
is_packet was_reset = false
is_packet (asked write start count) = false

-- where a packet's payload starts, and how long it is
abbrev start_of_packet : Option Packet → ℕ
start_of_packet (Some p) = p.start
start_of_packet None = 0

abbrev len_of_packet : Option Packet → ℕ
len_of_packet (Some p) = p.len
len_of_packet None = 0

module _ (k : Card) (room : ℕ) (s : List ℕ) (tsn : Tsn) (hsn : Hsn) (start len : ℕ)
    (reads : opened_of s ≡ Some (record { tsn = tsn; hsn = hsn; start = start; len = len })) (calls : is_call (payload_at (take (start + len) s) start) ≡ true) where
  no_other : (p : Payload) → is_call p ≡ false → Sent k room s p → ⊥
  no_other p f i =
      let e = sym reads ∙ i.comes.says in
      let a : i.start ≡ start = sym (ap start_of_packet e) in
      let b : i.len ≡ len = sym (ap len_of_packet e) in
      let c : is_call (payload_at (take (i.start + i.len) s) i.start) ≡ true = rw (a, b) calls in
      true≢false (sym c ∙ ap is_call i.comes.payload ∙ f)

  stays : Leaves k (packet room s) → ⊥
  stays (inl c) = no_other P.Commit refl c.0
  stays (inr (inl (inl a))) = no_other P.Abandon refl a.0
  stays (inr (inl (inr (inl a)))) = no_other P.EndSession refl a
  stays (inr (inl (inr (inr a)))) = no_other P.Broken refl a
  stays (inr (inr (inl e))) = true≢false (ap is_packet e)
  stays (inr (inr (inr e))) = true≢false (ap is_packet e.0)

-- ---- secrecy: SID's PIN is the MSID on one card, and two other bytes on the other
abbrev other : Card
other = record {
  cells = (H.card).cells;
  vault = record { live = put (H.card).vault.live 0 (R.secret_of (0x01 ∷ 0x02 ∷ [])); kept = (H.card).vault.kept };
}

other-pins : (H.card).vault ≡ other.vault → ⊥
other-pins e =
    let k : ◌≡◌ {A = ℕ} 32 2 = ap (λ v. (R.secret_at v.live 0).len) e in
    omega arith

-- the bytes of the first answer
unfoldable first_byte : List Sight → ℕ → ℕ
first_byte [] i = 0
first_byte (x ∷ l) i = get_or x.bytes i 0

abbrev as_sid : List ℕ → Event
as_sid pin = H.out (H.start U.admin_sp (H.by U.sid pin))

abbrev by_nothing : Event
by_nothing = as_sid (0xa0 ∷ [])

abbrev by_msid : Event
by_msid = as_sid (0xd0 ∷ 0x20 ∷ H.msid)

abbrev after : List Event
after = H.out (H.start U.admin_sp []) ∷ H.inside 1 (H.get U.pin_msid 0x03 0x03) ∷ powered ∷ []

both : {x y : Answered} (z : Answered) → x ≡ z → y ≡ z → x ≡ y
both z p q = p ∙ sym q

alike : AnsweredAlike H.card other (by_nothing ∷ after)
unfolding within be_val number_at be_of lead_of atom_of medium_of long_of form_of token_of is_control enc_int size_of head_of enc_bytes then end_of mark_of atom_is end_or values_by list_by named_by nest_by value_of value_by packet_of header pad_of sealed opened_of uid_is int_is list_is status_at call_at finish_is starts_by is_end last_of all fit_b set_ok edited_row reset_rows reset_mbr enc_atom enc_value enc_values slot_of names inner optional beyond nothing given is_int is_bytes is_uid or_left_out int_of uid_of free put_column put_item put_items start_from start_of block_of block_in get_of columns_in values_in set_of proof_from proof_of resets_of sound tables_ok tries_ok session_ok secret_ok secrets_ok blank_row blank_mbr blank_tables blank_secrets undo_ok method_of object_in who_in U.uid_of kind_of access_rows any_proved holds self_of some_row last_column need place_of count_of judge_who known signer judge_start judge_manager judge_proof bound_of judge_get is_number number_in is_flag flag_in allowed_set with_program is_resets resets_in is_pin pin_change flag_change values_ok change_in judge_set judge_bare revert_of activate_on judge_method same decided obey_change obey proving cleared change apply status_number cell_past0 told answer hear_manager judge_session hear_packet heard broke reply_to power reset media next sees trace run answered of_heard of_judged
alike = (both (said false) refl refl, (both not_asked refl refl, (both not_asked refl refl, (refl, tt))))

pub secrecy-speaks : SecrecySpeaks
unfolding within be_val number_at be_of lead_of atom_of medium_of long_of form_of token_of is_control enc_int size_of head_of enc_bytes then end_of mark_of atom_is end_or values_by list_by named_by nest_by value_of value_by packet_of header pad_of sealed opened_of uid_is int_is list_is status_at call_at finish_is starts_by is_end last_of all fit_b set_ok edited_row reset_rows reset_mbr enc_atom enc_value enc_values slot_of names inner optional beyond nothing given is_int is_bytes is_uid or_left_out int_of uid_of free put_column put_item put_items start_from start_of block_of block_in get_of columns_in values_in set_of proof_from proof_of resets_of sound tables_ok tries_ok session_ok secret_ok secrets_ok blank_row blank_mbr blank_tables blank_secrets undo_ok method_of object_in who_in U.uid_of kind_of access_rows any_proved holds self_of some_row last_column need place_of count_of judge_who known signer judge_start judge_manager judge_proof bound_of judge_get is_number number_in is_flag flag_in allowed_set with_program is_resets resets_in is_pin pin_change flag_change values_ok change_in judge_set judge_bare revert_of activate_on judge_method same decided obey_change obey proving cleared change apply status_number cell_past0 told answer hear_manager judge_session hear_packet heard broke reply_to power reset media next sees trace run answered of_heard of_judged first_byte
secrecy-speaks = record {
  one = H.card;
  other = other;
  apart = record { first = refl; second = refl; cells = refl; pins = other-pins };
  wrong = by_nothing;
  later = after;
  compared = refl;
  alike = alike;
  agree = secrecy sound-step H.card other (by_nothing ∷ after) refl refl refl alike;
  right = by_msid;
  known = (refl, refl);
  differ = λ e.
      let k : ◌≡◌ {A = ℕ} 0x81 0xf1 = ap (λ l. first_byte l 76) e in
      omega arith;
}

-- ---- a transaction of Admin1: a flag of the global range, and User1's PIN
abbrev flagged : List ℕ
flagged = H.set U.global_range (H.named 0x05 (0x01 ∷ []))

abbrev pinned : List ℕ
pinned = H.set (U.user_pin_base + 1) (H.named 0x03 (0xa1 ∷ 0x07 ∷ []))

pub transactions-speak : TransactionsSpeak
unfolding within be_val number_at be_of lead_of atom_of medium_of long_of form_of token_of is_control enc_int size_of head_of enc_bytes then end_of mark_of atom_is end_or values_by list_by named_by nest_by value_of value_by packet_of header pad_of sealed opened_of uid_is int_is list_is status_at call_at finish_is starts_by is_end last_of all fit_b set_ok edited_row reset_rows reset_mbr enc_atom enc_value enc_values slot_of names inner optional beyond nothing given is_int is_bytes is_uid or_left_out int_of uid_of free put_column put_item put_items start_from start_of block_of block_in get_of columns_in values_in set_of proof_from proof_of resets_of sound tables_ok tries_ok session_ok secret_ok secrets_ok blank_row blank_mbr blank_tables blank_secrets undo_ok method_of object_in who_in U.uid_of kind_of access_rows any_proved holds self_of some_row last_column need place_of count_of judge_who known signer judge_start judge_manager judge_proof bound_of judge_get is_number number_in is_flag flag_in allowed_set with_program is_resets resets_in is_pin pin_change flag_change values_ok change_in judge_set judge_bare revert_of activate_on judge_method same decided obey_change obey proving cleared change apply status_number cell_past0 told answer hear_manager judge_session hear_packet heard broke reply_to power reset media next sees trace run
transactions-speak = record {
  before = H.locking;
  begin = H.inside 2 (0xfb ∷ 0x00 ∷ []);
  inner = H.inside 2 flagged ∷ H.inside 2 pinned ∷ [];
  transaction = record {
    sound = refl;
    begins = (record { tsn = 2; hsn = 105; start = 56; len = 2; comes = record { sound = refl; enough = lit≤ tt; size = lit≤ tt; says = refl; payload = refl }; session = record { live = refl; by_tsn = refl; by_hsn = refl } }, refl);
    inside = (stays _ _ _ _ _ 56 _ refl refl, (stays _ _ _ _ _ 56 _ refl refl, tt));
  };
  tables = λ e. true≢false (ap (λ t. (row_at t.rows 0).read_enabled) e);
  pins = λ e.
      let k : ◌≡◌ {A = ℕ} 1 0 = ap (λ l. (R.secret_at l 5).len) e in
      omega arith;
  commit = (
    H.inside 2 (0xfc ∷ 0x00 ∷ []),
    (record { tsn = 2; hsn = 105; start = 56; len = 2; comes = record { sound = refl; enough = lit≤ tt; size = lit≤ tt; says = refl; payload = refl }; session = record { live = refl; by_tsn = refl; by_hsn = refl } }, refl),
  );
  abandon = (
    H.inside 2 (0xfa ∷ []),
    inr (inl (record { tsn = 2; hsn = 105; start = 56; len = 1; comes = record { sound = refl; enough = lit≤ tt; size = lit≤ tt; says = refl; payload = refl }; session = record { live = refl; by_tsn = refl; by_hsn = refl } })),
  );
}
