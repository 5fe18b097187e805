-- What an image that is taken has.
use Prim.Native.Nat.{ℕ, ◌-◌}
use mathlib.Core.Path.{◌≡◌}
use mathlib.Core.Bool.{true, ◌&&◌}
use mathlib.Core.List.{List}
use lib.ListN.{length, get_or}
use lib.Dec.{eqb}
use borrow.Author.Tests.{eqb-true}
use Rattle.ranges.specs.Row.{row_count}
use Rattle.model.specs.Record.{user_count}
use Rattle.image.specs.Write.{image_length}
use Rattle.image.specs.Read.{flags_ok, tables_ok, session_ok, head_ok, image_ok}
use Rattle.std.proofs.lemmas.Bool.{and_parts}

pub record Head (s : List ℕ) : Type 0 where
  pub length : length s ≡ image_length
  pub version : get_or s 0 0 ≡ 1
  pub ranges : get_or s 1 0 ≡ row_count - 1
  pub users : get_or s 2 0 ≡ user_count

pub head-taken : (s : List ℕ) → head_ok s ≡ true → Head s
unfolding head_ok
head-taken s h =
    let three = and_parts (eqb (length s) image_length && eqb (get_or s 0 0) 1 && eqb (get_or s 1 0) (row_count - 1)) (eqb (get_or s 2 0) user_count) h in
    let two = and_parts (eqb (length s) image_length && eqb (get_or s 0 0) 1) (eqb (get_or s 1 0) (row_count - 1)) three.0 in
    let one = and_parts (eqb (length s) image_length) (eqb (get_or s 0 0) 1) two.0 in
    record {
      length = eqb-true (length s) image_length one.0;
      version = eqb-true (get_or s 0 0) 1 one.1;
      ranges = eqb-true (get_or s 1 0) (row_count - 1) two.1;
      users = eqb-true (get_or s 2 0) user_count three.1;
    }

pub record Taken (s : List ℕ) : Type 0 where
  pub head : Head s
  pub tables : tables_ok s 43 ≡ true
  pub session : session_ok s 179 ≡ true
  pub undo : flags_ok s 206 1 ≡ true
  pub was : tables_ok s 207 ≡ true

pub taken : (s : List ℕ) → image_ok s ≡ true → Taken s
unfolding image_ok
taken s h =
    let four = and_parts (head_ok s && tables_ok s 43 && session_ok s 179 && flags_ok s 206 1) (tables_ok s 207) h in
    let three = and_parts (head_ok s && tables_ok s 43 && session_ok s 179) (flags_ok s 206 1) four.0 in
    let two = and_parts (head_ok s && tables_ok s 43) (session_ok s 179) three.0 in
    let one = and_parts (head_ok s) (tables_ok s 43) two.0 in
    record { head = head-taken s one.0; tables = one.1; session = two.1; undo = three.1; was = four.1 }

-- the length of bytes whose head is taken, and of an image that is
pub head_length : (s : List ℕ) → head_ok s ≡ true → length s ≡ image_length
head_length s h = (head-taken s h).length

pub taken_length : (s : List ℕ) → image_ok s ≡ true → length s ≡ image_length
taken_length s h = (taken s h).head.length
