-- The writer's loops: nodes measured, and nodes put, one behind another.
use Rattle.std.specs.Prelude.{Ok, Err, Some}
use Prim.Native.Nat.{ℕ, ◌+◌, ◌-◌, ◌/◌, ◌≤◌, ◌<◌}
use mathlib.Core.Path.{◌≡◌, sym, ap, ◌∙◌}
use mathlib.Core.List.{List, [], ◌∷◌, ◌++◌}
use mathlib.Core.Bool.{true}
use native.Mathlib.Omega.{arith}
use lib.ListN.{length, length-append}
use Rattle.token.specs.declared.PutError.TheVariants as P
use Rattle.token.specs.declared.Token.{Token}
use Rattle.token.specs.Bytes.{over}
use Rattle.token.specs.Write.{put_all}
use Rattle.token.proofs.Writes.{put-fits, put_full, all-fits}
use Rattle.value.specs.Value.{Value}
use Rattle.value.specs.Read.{Out, end_of}
use Rattle.value.specs.Source.{node_at, tree_at}
use Rattle.value.proofs.Nodes.{node-held}
use Rattle.tape.specs.Write.{wrote_end, wrote_all}
use Rattle.tape.specs.Steps.{enc_token, bytes_in}
use Rattle.tape.proofs.Rows.{Tok}
use Rattle.tape.proofs.Ran.{value_row}
use Rattle.tape.proofs.Flat.{flat, flat-none, flat-snoc, tok_bytes, bytes_of, row_of, row_is, bytes-in, wrote-end, wrote-all}
use Rattle.tape.proofs.Nodes.{node-next}
use Rattle.tape.proofs.Walks.{Passed, passed_first, passed-next, passed-last, passed-le, Laid, laid-first, laid_next}

module _ (t bs : List ℕ) (i q at : ℕ) where
  abbrev tok : ℕ → Token
  tok = node_at t (length bs)

  abbrev tree : Out Value
  tree = tree_at t bs 16 i

  abbrev whole : List ℕ
  whole = bytes_in bs tree

  -- the nodes xs before j are passed, and p is the place behind them
  abbrev Behind : List Tok → ℕ → ℕ → Type 0
  Behind xs j p = Passed tok (row_of tree) q xs j × (p ≡ at + length (flat (tok_bytes bs) xs))

  -- one more, and there is room for it where there is room for the whole
  abbrev Next : List Tok → ℕ → ℕ → Type 0
  Next xs j p = (x : Tok) × (enc_token bs (tok j) ≡ tok_bytes bs x) × Behind (xs ++ (x ∷ [])) (j + 1) (p + length (tok_bytes bs x)) × (p + length (tok_bytes bs x) ≤ at + length whole)

  behind-first : end_of tree ≡ Some q → Behind [] i at
  behind-first e = (passed_first tok (row_of tree) q i (row_is tok 16 i q tree (value_row tok (length t / 3) 16 i) e), rw (flat-none (tok_bytes bs)) (omega arith))

  behind-next : (xs : List Tok) (j p : ℕ) → j < q → Behind xs j p → Next xs j p
  behind-next xs j p h b =
      let n = passed-next tok (row_of tree) q (length t / 3) (node-held t (length bs)) xs j b.0 h in
      let x = n.0 in
      let e : n.1 ≡ j + 1 = node-next t (length bs) j x n.1 n.2 in
      let l : length (flat (tok_bytes bs) (xs ++ (x ∷ []))) ≡ length (flat (tok_bytes bs) xs) + length (tok_bytes bs x) = rw (flat-snoc (tok_bytes bs) xs x) (length-append (flat (tok_bytes bs) xs) (tok_bytes bs x)) in
      let u = passed-le tok (row_of tree) q (tok_bytes bs) (xs ++ (x ∷ [])) n.1 n.4 in
      (x, rw n.2 (bytes_of bs x n.1), (rw e at n.4, omega (arith, b.1)), rw (bytes-in bs tree) (omega (arith, b.1)))

  behind-last : (xs : List Tok) (j p : ℕ) → q ≤ j → Behind xs j p → (flat (tok_bytes bs) xs ≡ whole) × (p ≡ at + length whole)
  behind-last xs j p h b =
      let e = passed-last tok (row_of tree) q (length t / 3) (node-held t (length bs)) xs j b.0 h in
      let f : flat (tok_bytes bs) xs ≡ whole = ap (flat (tok_bytes bs)) e ∙ sym (bytes-in bs tree) in
      (f, b.1 ∙ ap (λ (l : List ℕ). at + length l) f)

  -- ---- measured, in n bytes
  abbrev pub Measured : ℕ → ℕ → ℕ → Type 0
  Measured n j p = (xs : List Tok) × Behind xs j p × (p ≤ n)

  module _ (n : ℕ) (e : end_of tree ≡ Some q) where
    full : n < at + length whole → Err P.Full ≡ wrote_end bs n at tree
    full h = sym (wrote-end bs at q n tree e ∙ put_full n at whole h)

    pub measure-none : n < at → Err P.Full ≡ wrote_end bs n at tree
    measure-none h = full (omega arith)

    pub measure-first : at ≤ n → Measured n i at
    measure-first h = ([], behind-first e, h)

    pub measure-full : (j p k : ℕ) → j < q → Measured n j p → k ≡ length (enc_token bs (tok j)) → n - p < k → Err P.Full ≡ wrote_end bs n at tree
    measure-full j p k h m f l = let x = behind-next m.0 j p h m.1 in full (omega (arith, m.2, x.3, ap length x.1))

    pub measure-next : (j p k : ℕ) → j < q → Measured n j p → k ≡ length (enc_token bs (tok j)) → k ≤ n - p → Measured n (j + 1) (p + k)
    measure-next j p k h m f l =
        let x = behind-next m.0 j p h m.1 in
        let g : k ≡ length (tok_bytes bs x.0) = f ∙ ap length x.1 in
        (m.0 ++ (x.0 ∷ []), rw g x.2, omega (arith, m.2))

    pub measure-last : (j p : ℕ) → q ≤ j → Measured n j p → Ok p ≡ wrote_end bs n at tree
    measure-last j p h m =
        let x = behind-last m.0 j p h m.1 in
        sym (wrote-end bs at q n tree e ∙ put-fits n at whole (omega (arith, m.2, x.1)) ∙ ap Ok (sym x.1))

  -- ---- put, in the buffer d
  abbrev pub Filled : List ℕ → ℕ → ℕ → List ℕ → Type 0
  Filled d j p l = (xs : List Tok) × Behind xs j p × Laid (tok_bytes bs) d at xs l

  module _ (d : List ℕ) (e : end_of tree ≡ Some q) (r : at + length whole ≤ length d) where
    pub fill-first : Filled d i at d
    fill-first = ([], behind-first e, laid-first (tok_bytes bs) d at)

    pub fill-room : (j p k : ℕ) (l : List ℕ) → j < q → Filled d j p l → k ≡ length (enc_token bs (tok j)) → p + k ≤ length d
    fill-room j p k l h m f = let x = behind-next m.0 j p h m.1 in omega (arith, x.3, ap length x.1)

    pub fill-next : (j p k : ℕ) (l o : List ℕ) → j < q → Filled d j p l → k ≡ length (enc_token bs (tok j)) → o ≡ put_all true l p (enc_token bs (tok j)) → Filled d (j + 1) (p + k) o
    fill-next j p k l o h m f g =
        let x = behind-next m.0 j p h m.1 in
        let y = tok_bytes bs x.0 in
        let s : k ≡ length y = f ∙ ap length x.1 in
        let u : o ≡ over l p y = g ∙ ap (put_all true l p) x.1 ∙ all-fits l p y (omega (arith, x.3, m.2.1)) in
        (m.0 ++ (x.0 ∷ []), rw s x.2, laid_next (tok_bytes bs) d at p m.0 x.0 l o m.2 m.1.1 (omega (arith, x.3)) u)

    pub fill-last : (j p : ℕ) (l : List ℕ) → q ≤ j → Filled d j p l → l ≡ wrote_all bs d at tree
    fill-last j p l h m =
        let x = behind-last m.0 j p h m.1 in
        m.2.0 ∙ ap (over d at) x.0 ∙ sym (wrote-all bs at q d tree e ∙ all-fits d at whole r)
