-- What an event does to the record, by what was decided in it, and the parts of a reply that goes by a test.
use Prim.Native.Nat.{ℕ}
use mathlib.Core.Path.{◌≡◌, refl, ap₂}
use mathlib.Core.List.{List}
use Rattle.model.specs.Types.{Card, Decision, Cells, Who}
use Rattle.model.specs.Vault.{decided}
use Rattle.model.specs.Step.{Heard, turned, judged, heard, reply_to, after, Event, packet, powered, was_reset, asked, next}
use Rattle.model.specs.Seen.{nothing, took, taken, taken_of}
use Rattle.model.specs.declared.Who.TheVariants as W
use Rattle.model.specs.Record.{with_pins}
use Rattle.model.specs.Apply.{cleared}

-- who is let in leaves all but Tries
pub cleared-tries : (c : Cells) (w : Who) → cleared c w ≡ with_pins c (cleared c w).pins
unfolding cleared
cleared-tries c W.Unknown = refl
cleared-tries c W.Anybody = refl
cleared-tries c W.Class = refl
cleared-tries c (W.Row r) = refl

card-took : (k : Card) (h : Heard) (s : List ℕ) (d : Decision) → taken_of k h ≡ took s d → (reply_to k h).card ≡ after k s d
unfolding taken_of reply_to
card-took k (turned n) s d e = absurd cc
card-took k (judged tsn hsn t j) s d e =
    let p : t ≡ s = cc in
    let q : decided k.vault t j ≡ d = cc in
    ap₂ (after k) p q

card-idle : (k : Card) (h : Heard) → taken_of k h ≡ nothing → (reply_to k h).card ≡ k
unfolding taken_of reply_to
card-idle k (turned n) e = refl
card-idle k (judged tsn hsn t j) e = absurd cc

-- a packet of which nothing is decided
pub rests : (k : Card) (room : ℕ) (s : List ℕ) → taken k (packet room s) ≡ nothing → next k (packet room s) ≡ k
unfolding taken next
rests k room s e = card-idle k (heard k room s) e

-- and any event of which something is
pub moves : (k : Card) (e : Event) (s : List ℕ) (d : Decision) → taken k e ≡ took s d → next k e ≡ after k s d
unfolding taken next
moves k (packet room p) s d e = card-took k (heard k room p) s d e
moves k powered s d e = absurd cc
moves k was_reset s d e = absurd cc
moves k (asked write start count) s d e = absurd cc
