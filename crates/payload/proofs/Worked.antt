-- Worked examples: the definitions compute.
use Prim.Native.Nat.{ℕ, zero, suc}
use mathlib.Core.Path.{◌≡◌, refl}
use mathlib.Core.List.{List, [], ◌∷◌, ◌++◌}
use lib.ListN.{drop}
use Rattle.token.specs.Bytes.{within, be_val, number_at}
use Rattle.token.specs.Token.{is_control, lead_of, atom_of, medium_of, long_of, form_of, token_of}
use Rattle.value.specs.Read.{then, mark_of, atom_is, end_or, values_by, list_by, named_by, nest_by, value_of, value_by}
use Rattle.payload.specs.declared.Payload.TheVariants as P
use Rattle.payload.specs.Payload.{uid_is, int_is, list_is, status_at, call_at, finish_is, starts_by, is_end, last_of, payload_at}

-- F8, the session manager, StartSession
head : List ℕ
head = 0xf8 ∷ 0xa8 ∷ 0 ∷ 0 ∷ 0 ∷ 0 ∷ 0 ∷ 0 ∷ 0 ∷ 0xff ∷ 0xa8 ∷ 0 ∷ 0 ∷ 0 ∷ 0 ∷ 0 ∷ 0 ∷ 0xff ∷ 0x02 ∷ []

-- host session 105, the Admin SP, Write
params : List ℕ
params = 0xf0 ∷ 0x81 ∷ 0x69 ∷ 0xa8 ∷ 0 ∷ 0 ∷ 0x02 ∷ 0x05 ∷ 0 ∷ 0 ∷ 0 ∷ 0x01 ∷ 0x01 ∷ 0xf1 ∷ []

tail : List ℕ
tail = 0xf9 ∷ 0xf0 ∷ 0 ∷ 0 ∷ 0 ∷ 0xf1 ∷ []

-- n lists, one in another
deep : ℕ → List ℕ
deep zero = []
deep (suc n) = 0xf0 ∷ deep n ++ (0xf1 ∷ [])

record Worked : Type 0 where
  ends : payload_at (0xfa ∷ []) 0 ≡ P.EndSession
  ends-among-empty : payload_at (0xff ∷ 0xfa ∷ 0xff ∷ 0xff ∷ []) 0 ≡ P.EndSession
  ends-at-a-place : payload_at (0xfb ∷ 0xfa ∷ []) 1 ≡ P.EndSession
  ends-and-more : payload_at (0xfa ∷ 0x00 ∷ []) 0 ≡ P.Broken
  begins : payload_at (0xfb ∷ 0x00 ∷ []) 0 ≡ P.Begin
  begins-in-a-longer-form : payload_at (0xfb ∷ 0x82 ∷ 0x00 ∷ 0x00 ∷ []) 0 ≡ P.Begin
  begins-not : payload_at (0xfb ∷ 0x01 ∷ []) 0 ≡ P.Broken
  commits : payload_at (0xfc ∷ 0x00 ∷ []) 0 ≡ P.Commit
  abandons : payload_at (0xfc ∷ 0x01 ∷ []) 0 ≡ P.Abandon
  neither : payload_at (0xfc ∷ 0x02 ∷ []) 0 ≡ P.Broken
  nothing : payload_at [] 0 ≡ P.Broken
  an-atom : payload_at (0x00 ∷ []) 0 ≡ P.Broken
  uid-of-seven : payload_at (0xf8 ∷ 0xa7 ∷ drop 3 head ++ params ++ tail) 0 ≡ P.Broken
  starts : payload_at (head ++ params ++ tail) 0 ≡ P.Call 0xff 0xff02 20
  starts-and-more : payload_at (head ++ params ++ tail ++ (0x00 ∷ [])) 0 ≡ P.Broken
  no-end-of-data : payload_at (head ++ params ++ (0xf0 ∷ 0 ∷ 0 ∷ 0 ∷ 0xf1 ∷ [])) 0 ≡ P.Broken
  status-of-two : payload_at (head ++ params ++ (0xf9 ∷ 0xf0 ∷ 0 ∷ 0 ∷ 0xf1 ∷ [])) 0 ≡ P.Broken
  status-not-zero : payload_at (head ++ params ++ (0xf9 ∷ 0xf0 ∷ 0 ∷ 0 ∷ 1 ∷ 0xf1 ∷ [])) 0 ≡ P.Broken
  no-list : payload_at (head ++ (0x00 ∷ []) ++ tail) 0 ≡ P.Broken
  sixteen-deep : payload_at (head ++ deep 16 ++ tail) 0 ≡ P.Call 0xff 0xff02 20
  seventeen-deep : payload_at (head ++ deep 17 ++ tail) 0 ≡ P.Broken

worked : Worked
unfolding
    head params tail deep within be_val number_at is_control lead_of atom_of medium_of long_of form_of token_of
    then mark_of atom_is end_or values_by list_by named_by nest_by value_of value_by
    uid_is int_is list_is status_at call_at finish_is starts_by is_end last_of
worked = record {
  ends = refl;
  ends-among-empty = refl;
  ends-at-a-place = refl;
  ends-and-more = refl;
  begins = refl;
  begins-in-a-longer-form = refl;
  begins-not = refl;
  commits = refl;
  abandons = refl;
  neither = refl;
  nothing = refl;
  an-atom = refl;
  uid-of-seven = refl;
  starts = refl;
  starts-and-more = refl;
  no-end-of-data = refl;
  status-of-two = refl;
  status-not-zero = refl;
  no-list = refl;
  sixteen-deep = refl;
  seventeen-deep = refl;
}
