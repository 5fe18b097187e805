-- The histories at the edges, computed.
use mathlib.Core.Path.{refl}
use Rattle.token.specs.Bytes.{within, be_val, number_at, be_of}
use Rattle.token.specs.Token.{lead_of, atom_of, medium_of, long_of, form_of, token_of, is_control}
use Rattle.token.specs.Write.{enc_int, size_of, head_of, enc_bytes}
use Rattle.value.specs.Read.{then, end_of, mark_of, atom_is, end_or, values_by, list_by, named_by, nest_by, value_of, value_by}
use Rattle.packet.specs.Envelope.{packet_of, header, pad_of, sealed, opened_of}
use Rattle.payload.specs.Payload.{uid_is, int_is, list_is, status_at, call_at, finish_is, starts_by, is_end, last_of}
use Rattle.ranges.specs.Decides.{all}
use Rattle.ranges.specs.Fit.{fit_b}
use Rattle.ranges.specs.Set.{set_ok, edited_row}
use Rattle.ranges.specs.Reset.{reset_rows, reset_mbr}
use Rattle.tape.specs.Write.{enc_atom, enc_value, enc_values}
use Rattle.item.specs.Item.{slot_of}
use Rattle.params.specs.Names.{names, inner, optional, beyond, nothing, given, is_int, is_bytes, is_uid, or_left_out, int_of, uid_of}
use Rattle.params.specs.Columns.{free, put_column, put_item, put_items}
use Rattle.params.specs.Params.{start_from, start_of, block_of, block_in, get_of, columns_in, values_in, set_of, proof_from, proof_of, resets_of}
use Rattle.model.specs.Sound.{sound, tables_ok, tries_ok, session_ok, secret_ok, secrets_ok, blank_row, blank_mbr, blank_tables, blank_secrets, undo_ok}
use Rattle.model.specs.Uids.{method_of, object_in, who_in}
use Rattle.model.specs.Uids as U
use Rattle.model.specs.Access.{kind_of, access_rows, any_proved, holds, self_of, some_row, last_column}
use Rattle.model.specs.Judge.{need, place_of, count_of, judge_who, known, signer, judge_start, judge_manager, judge_proof, bound_of, judge_get, is_number, number_in, is_flag, flag_in, allowed_set, with_program, is_resets, resets_in, is_pin, pin_change, flag_change, values_ok, change_in, judge_set, judge_bare, revert_of, activate_on, judge_method}
use Rattle.model.specs.Vault.{same, decided, obey_change, obey}
use Rattle.model.specs.Apply.{proving, cleared, change, apply}
use Rattle.model.specs.Answer.{status_number, cell_past0, told, answer}
use Rattle.model.specs.Step.{hear_manager, judge_session, hear_packet, heard, broke, reply_to, power, reset, ruling_number, media, next, run}
use Rattle.model.specs.Seen.{sees, trace}
use Rattle.ranges.specs.Owner.{owner_below, owner_of}
use Rattle.ranges.specs.Media.{barred_b, clear_b, shadow_of, media_of}
use Rattle.histories.specs.Edges.{Edges}

pub edges : Edges
unfolding within be_val number_at be_of lead_of atom_of medium_of long_of form_of token_of is_control enc_int size_of head_of enc_bytes then end_of mark_of atom_is end_or values_by list_by named_by nest_by value_of value_by packet_of header pad_of sealed opened_of uid_is int_is list_is status_at call_at finish_is starts_by is_end last_of all fit_b set_ok edited_row reset_rows reset_mbr enc_atom enc_value enc_values slot_of names inner optional beyond nothing given is_int is_bytes is_uid or_left_out int_of uid_of free put_column put_item put_items start_from start_of block_of block_in get_of columns_in values_in set_of proof_from proof_of resets_of sound tables_ok tries_ok session_ok secret_ok secrets_ok blank_row blank_mbr blank_tables blank_secrets undo_ok method_of object_in who_in U.uid_of kind_of access_rows any_proved holds self_of some_row last_column need place_of count_of judge_who known signer judge_start judge_manager judge_proof bound_of judge_get is_number number_in is_flag flag_in allowed_set with_program is_resets resets_in is_pin pin_change flag_change values_ok change_in judge_set judge_bare revert_of activate_on judge_method same decided obey_change obey proving cleared change apply status_number cell_past0 told answer hear_manager judge_session hear_packet heard broke reply_to power reset media next sees trace run owner_below owner_of barred_b clear_b shadow_of media_of ruling_number
edges = record {
  numbers = refl;
  round = refl;
  revert = refl;
  revert_locking = refl;
  revert_sp = refl;
  tper_reset = refl;
  tries = refl;
  media = refl;
  hidden = refl;
  together = refl;
}
