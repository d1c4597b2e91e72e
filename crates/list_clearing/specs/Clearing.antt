-- The contents w of frames become w'. Assumes nothing.
use Rattle.std.specs.Prelude.{◌≡◌, Bool, List, ℕ, ◌/◌, length, get_or}
use Rattle.base.specs.Choices.{pick}
use Rattle.owners.specs.States as frames
use Rattle.machine.specs.declared.Request.{Request}
use Rattle.list_model.specs.Carrying.{cleared_by}

-- the words of the frames that pass the test are 0, and no other changed
pub record ClearedWhere (test : ℕ → Bool) (w w' : List ℕ) : Type 0 where
  pub long : length w' ≡ length w
  pub words : (j : ℕ) → get_or w' j 0 ≡ pick (test (j / 512)) 0 (get_or w j 0)

-- every frame that one of the first i requests of machine m frees is cleared, and no other word changed
pub record ClearedAll (first : ℕ) (frame : ℕ → frames.State) (m : ℕ) (f : ℕ → Request) (i : ℕ) (w w' : List ℕ) : Type 0 where
  pub long : length w' ≡ length w
  pub words : (j : ℕ) → get_or w' j 0 ≡ cleared_by first frame m f i j (get_or w j 0)
