-- Bytes mean one request at most, and that is the one that they are read as. Assumes nothing.
use mathlib.Core.Path.{◌≡◌, sym, ap, ◌∙◌}
use mathlib.Core.List.{List}
use Prim.Native.Nat.{ℕ}
use Rattle.machine.specs.declared.Request.{Request}
use Rattle.request_bytes.specs.Requests.{request_of, request_at, Means}
use Rattle.request_bytes.proofs.Laws.{request_back}

-- what bytes mean is what they are read as
pub means_request : {s : List ℕ} {p : ℕ} {q : Request} → Means s p q → q ≡ request_at s p
means_request {s} {p} {q} m = sym (request_back q) ∙ ap request_of (sym m.numbers)

-- no bytes mean two requests
pub one_meaning : {s : List ℕ} {p : ℕ} {q q' : Request} → Means s p q → Means s p q' → q ≡ q'
one_meaning m m' = means_request m ∙ sym (means_request m')
