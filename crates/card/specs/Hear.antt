-- What the card's own functions are held to: a packet whose envelope is good.
use Rattle.std.specs.Prelude.{ℕ, cond, List}
use Rattle.packet.specs.declared.Tsn.{Tsn}
use Rattle.packet.specs.declared.Hsn.{Hsn}
use Rattle.payload.specs.Payload.{payload_at}
use Rattle.model.specs.declared.Cells.{Cells}
use Rattle.model.specs.Step.{Heard, turned, judged, hear_manager, judge_session, is_manager, is_session}

-- with the request as far as the payload reaches
abbrev pub hear_at : Cells → Tsn → Hsn → List ℕ → ℕ → Heard
hear_at c tsn hsn s start =
    cond (is_manager tsn hsn) (hear_manager c tsn hsn s (payload_at s start))
    (cond (is_session c.session tsn hsn) (judged tsn hsn s (judge_session c s (payload_at s start)))
    (turned 5))
