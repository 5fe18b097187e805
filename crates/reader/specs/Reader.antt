-- A payload as numbers.
use Rattle.std.specs.Prelude.{ℕ, List, set}
use Rattle.payload.specs.declared.Payload.{Payload}
use Rattle.payload.specs.declared.Payload.TheVariants as P

unfoldable pub kind_of : Payload → ℕ
kind_of (P.Call object method params) = 1
kind_of P.EndSession = 2
kind_of P.Begin = 3
kind_of P.Commit = 4
kind_of P.Abandon = 5
kind_of P.Broken = 0

-- the words w after it: a call's object, method and the place of its parameters
unfoldable pub call_of : List ℕ → Payload → List ℕ
call_of w (P.Call object method params) = set (set (set w 0 object) 1 method) 2 params
call_of w P.EndSession = w
call_of w P.Begin = w
call_of w P.Commit = w
call_of w P.Abandon = w
call_of w P.Broken = w
