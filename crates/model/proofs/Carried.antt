-- What is claimed of each end of a call, carried over from one claim to another.
use Rattle.std.specs.Prelude.{Option, Some, None, Result, Ok, Err}
use Prim.Native.Nat.{ℕ}
use mathlib.Core.Bool.{Bool}
use mathlib.Core.List.{List}
use mathlib.Core.Logic.{inl, inr}
use Rattle.value.specs.Value.{Values}
use Rattle.value.specs.Read.{Out}
use Rattle.params.specs.declared.Columns.{Columns}
use Rattle.params.specs.declared.Offence.{Offence}
use Rattle.params.specs.declared.Block.{Block}
use Rattle.params.specs.declared.Start.{Start}
use Rattle.params.specs.Names.{given}
use Rattle.params.specs.Params.{no_columns, get_of, set_of, start_of}
use Rattle.model.specs.Types.{Hsn, Card, Object, Who}
use Rattle.model.specs.Wants.{When, Faults, Ruled}
use Rattle.model.specs.Calls.{Opening, started_by, OnManager, Ways, got_by, put_by, OnObject}

-- at one fault, and along the row of them
pub when : {P X Y R S : Type 0} → (X → Y) → (R → S) → When P X R → When P Y S
when f g (inl p) = inl (p.0, f p.1)
when f g (inr p) = inr (p.0, g p.1)

ruled : {f : Faults} {A C : ℕ → Type 0} {B D W X R S : Type 0} → ((st : ℕ) → A st → C st) → (B → D) → (W → X) → (R → S) → Ruled f A B W R → Ruled f C D X S
ruled a b w r =
    when (a 0x01) (when (a 0x07) (when (a 0x0c) (when b (when (a 0x0c) (when (a 0x3f) (when (a 0x12) (when w r)))))))

pub record Opens (a b : Opening) : Type 0 where
  pub plain : a.plain → b.plain
  pub refused : (st : ℕ) → a.refused st → b.refused st
  pub wrong : (w : Who) → a.wrong w → b.wrong w
  pub started : (locking : Bool) (hsn : Hsn) (w : Who) → a.started locking hsn w → b.started locking hsn w

started-by : {a b : Opening} → Opens a b → (s : List ℕ) (x : Option Start) → started_by a s x → started_by b s x
started-by f s None h = h
started-by f s (Some t) h = f.started _ t.hsn _ h

pub manager : {a b : Opening} {k : Card} {s : List ℕ} {object method : ℕ} {vs : Out Values} → Opens a b
    → OnManager a k s object method vs → OnManager b k s object method vs
manager {s = s} {vs = vs} f h = record {
  other = λ n. f.plain (h.other n);
  start = λ e g. ruled f.refused (f.refused 0x01) (f.wrong _) (started-by f s (given None (start_of s) vs)) (h.start e g);
}

pub record Leads (a b : Ways) : Type 0 where
  pub refused : (st : ℕ) → a.refused st → b.refused st
  pub got : (first last : ℕ) → a.got first last → b.got first last
  pub put : (t : Columns) → a.put t → b.put t
  pub denied : a.denied → b.denied
  pub wrong : (w : Who) → a.wrong w → b.wrong w
  pub proved : (w : Who) → a.proved w → b.proved w
  pub activated : a.activated → b.activated
  pub reverted : a.reverted → b.reverted
  pub reverted_sp : a.reverted_sp → b.reverted_sp

got-by : {a b : Ways} → Leads a b → (o : Object) (x : Option Block) → got_by a o x → got_by b o x
got-by f o None h = h
got-by f o (Some b) h = f.got _ _ h

put-by : {a b : Ways} → Leads a b → (x : Result Columns Offence) → put_by a x → put_by b x
put-by f (Err e) h = h
put-by f (Ok t) h = f.put t h

pub object : {a b : Ways} {k : Card} {s : List ℕ} {o : Object} {method : ℕ} {vs : Out Values} → Leads a b → OnObject a k s o method vs → OnObject b k s o method vs
object {o = o} {vs = vs} f h =
    let no = f.refused 0x01 in
    record {
      get = λ e. ruled f.refused no no (got-by f o (given None get_of vs)) (h.get e);
      set = λ e. ruled f.refused no no (put-by f (given no_columns set_of vs)) (h.set e);
      authenticate = λ e. ruled f.refused f.denied (f.wrong _) (f.proved _) (h.authenticate e);
      activate = λ e. ruled f.refused no no f.activated (h.activate e);
      revert = λ e. ruled f.refused no no f.reverted (h.revert e);
      revert_sp = λ e. ruled f.refused no no f.reverted_sp (h.revert_sp e);
      other = λ n. no (h.other n);
    }
