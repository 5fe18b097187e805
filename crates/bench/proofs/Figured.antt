-- Each starred figure, computed.
use Prim.Native.Nat.{ℕ}
use mathlib.Core.Path.{◌≡◌, refl}
use mathlib.Core.List.{List, ◌∷◌}
use lib.ListN.{length}
use Rattle.token.specs.Bytes.{within, be_val}
use Rattle.token.specs.Token.{lead_of, atom_of, form_of, token_of, is_control}
use Rattle.token.specs.Write.{head_of, enc_bytes}
use Rattle.ranges.specs.Decides.{all}
use Rattle.ranges.specs.Fit.{fit_b}
use Rattle.ranges.specs.Set.{edited_row, set_ok}
use Rattle.ranges.specs.Media.{shadow_of, media_of}
use Rattle.bench.specs.Figures.{figures, AllHold}

-- the head of a string of 32 bytes
headed-32 : (bs : List ℕ) → length bs ≡ 32 → enc_bytes bs ≡ 0xd0 ∷ 0x20 ∷ bs
unfolding enc_bytes head_of
headed-32 bs e = rw e

pub all_hold : AllHold figures
unfolding figures lead_of within is_control atom_of form_of token_of be_val edited_row set_ok fit_b all shadow_of media_of
all_hold = (refl, (refl, (refl, (refl, (refl, (refl, (headed-32, (refl, (refl, (refl, (refl, (refl, (refl, (refl, tt))))))))))))))
