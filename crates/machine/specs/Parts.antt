-- What is one machine's own, and what a refusal is. Assumes nothing.
use Rattle.std.specs.Prelude.{◌≡◌, true, ℕ, ◌/◌}
use Rattle.machine.specs.declared.Which.{Which}
use Rattle.machine.specs.declared.Answer.{Answer}
use Rattle.machine.specs.State.{State, is_mine}

-- machine m's presence, sets, frames and their contents are the same in a and b
pub record Alike (m : ℕ) (a b : State) : Type 0 where
  pub present : a.present m ≡ b.present m
  pub set : (w : Which) → a.set m w ≡ b.set m w
  pub mine : (k : ℕ) → is_mine m (a.frame k) ≡ is_mine m (b.frame k)
  pub words : (j : ℕ) → is_mine m (b.frame (j / 512)) ≡ true → a.word j ≡ b.word j

-- the answer is a refusal
abbrev pub Refused : Answer → Type 0
Refused Answer.Done = ⊥
Refused (Answer.Address a) = ⊥
Refused (Answer.No why) = Unit
Refused Answer.Corrupt = Unit
