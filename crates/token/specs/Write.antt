-- "The writer uses the shortest form", and "outside these limits, or short of room, the writer refuses and writes nothing".
use Rattle.std.specs.Prelude.{ℕ, ◌+◌, ◌/◌, ◌%◌, List, [], ◌∷◌, ◌++◌, Bool, true, false, ◌&&◌, cond, length, ltb, leb, Result, Ok, Err}
use Rattle.token.specs.declared.PutError.{PutError}
use Rattle.token.specs.declared.PutError.TheVariants as P
use Rattle.token.specs.Bytes.{be_of, over}

-- how many bytes v takes: the least n from 1 on with v below 256 to the n
unfoldable pub size_of : ℕ → ℕ
size_of v =
    cond (ltb v 0x100) 1
    (cond (ltb v 0x10000) 2
    (cond (ltb v 0x1000000) 3
    (cond (ltb v 0x100000000) 4
    (cond (ltb v 0x10000000000) 5
    (cond (ltb v 0x1000000000000) 6
    (cond (ltb v 0x100000000000000) 7
    8))))))

-- an integer below 2^64: a tiny atom, or a short one
unfoldable pub enc_int : ℕ → List ℕ
enc_int v = cond (ltb v 64) (v ∷ []) ((0x80 + size_of v) ∷ be_of (size_of v) v)

-- what stands before n bytes: short, medium or long
unfoldable pub head_of : ℕ → List ℕ
head_of n =
    cond (ltb n 16) ((0xa0 + n) ∷ [])
    (cond (ltb n 2048) ((0xd0 + n / 256) ∷ (n % 256) ∷ [])
    (0xe2 ∷ (n / 65536) ∷ (n / 256 % 256) ∷ (n % 256) ∷ []))

unfoldable pub enc_bytes : List ℕ → List ℕ
enc_bytes bs = head_of (length bs) ++ bs

-- a long atom's length has three bytes
abbrev pub max_bytes : ℕ
max_bytes = 16777216

-- what a writer answers for bs at at in a buffer of n bytes, where ok says that the limits are kept
unfoldable pub put_end : Bool → ℕ → ℕ → List ℕ → Result ℕ PutError
put_end true n at bs = cond (leb (at + length bs) n) (Ok (at + length bs)) (Err P.Full)
put_end false n at bs = Err P.Outside

-- and what the buffer d holds then
unfoldable pub put_all : Bool → List ℕ → ℕ → List ℕ → List ℕ
put_all ok d at bs = cond (ok && leb (at + length bs) (length d)) (over d at bs) d
