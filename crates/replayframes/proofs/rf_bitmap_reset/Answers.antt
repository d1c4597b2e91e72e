-- `replayframes::rf_bitmap_reset` meets its contract. Assumes nothing.
use Rattle.bitmap_allocator.specs.Changes.{ResetSays}
use Rattle.replayframes.specs.Bitmap.{reset_code}
use Rattle.codes.proofs.Codes.{coded}
use Rattle.replayframes.proofs.rf_bitmap_reset.Goals as goal

pub returns-in-Ok : goal.returns-in-Ok
returns-in-Ok c = coded (ResetSays _ _) reset_code c.reset.ensures c.in-Ok.is

pub returns-in-Err : goal.returns-in-Err
returns-in-Err c = coded (ResetSays _ _) reset_code c.reset.ensures c.in-Err.is
