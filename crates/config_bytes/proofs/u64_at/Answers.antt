-- `config_bytes::u64_at` meets its contract. Assumes nothing.
use mathlib.Core.Path.{◌≡◌}
use Prim.Native.Nat.{◌+◌}
use native.Mathlib.Omega.{arith}
use Rattle.config_bytes.specs.Fields.{le16, le32, le64}
use Rattle.config_bytes.proofs.u64_at.Goals as goal

pub returns : goal.returns
unfolding le64 le32 le16
returns c =
    let at = c.args.at in
    let three : at + 2 + 1 ≡ at + 3 = omega arith in
    let five : at + 4 + 1 ≡ at + 5 = omega arith in
    let six : at + 4 + 2 ≡ at + 6 = omega arith in
    let seven : at + 6 + 1 ≡ at + 7 = omega arith in
    simp (three, five, six, seven) (omega (arith, c.from_le_bytes.ensures))
