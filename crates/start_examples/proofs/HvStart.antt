-- An example of every answer of the start. Assumes nothing.
use mathlib.Core.Path.{◌≡◌, refl, sym}
use mathlib.Core.List.{List, []}
use Prim.Native.Nat.{ℕ}
use native.Mathlib.Omega.{arith}
use lib.Dec.{lit<, lit≤}
use lib.ListN.{length, replicate}
use Rattle.std.proofs.Common.{Ok, Err}
use Rattle.base.proofs.Ranges.{zero_word}
use Rattle.bitmap_examples.proofs.Trees.{taken, full, not_full_lem}
use Rattle.allocator_examples.proofs.Memories.{held, few}
use Rattle.frames_examples.proofs.Words.{dirty, word, dirty_backed, unbacked}
use Rattle.frames_examples.proofs.FramesPool.{init_ok}
use Rattle.claims.specs.declared.Unfit.{Unfit}
use Rattle.owners.specs.States.{Matched}
use Rattle.config_bytes.specs.Fields.{config_of}
use Rattle.config.specs.Checking.{RefusedSays}
use Rattle.config_rules.specs.declared.Reason.{Reason}
use Rattle.config_examples.proofs.Truck.{bytes, bytes_same, loaded, means, ok}
use Rattle.zones.specs.Layout.{slots_in}
use Rattle.hv_state.specs.Memory.{Mem}
use Rattle.hv_state.specs.Serving.{mem}
use Rattle.hv_start.specs.declared.BadZones.{BadZones}
use Rattle.hv_start.specs.declared.BadFrames.{BadFrames}
use Rattle.hv_start.specs.declared.NotStarted.{NotStarted}
use Rattle.hv_start.specs.Starting.{StartSays, Lent, Crowded}
use Rattle.hv_start.proofs.Starts.{starts}
use Rattle.machine_examples.proofs.Memories.{away}
use Rattle.machine_examples.proofs.HvRequest.{started}
use Rattle.start_examples.proofs.Lent.{bytes_small, blank, tight, short, two_machines, one_region, has_room, right, wide_bytes, wide_same, wide_right}

-- the memories before
abbrev pub lent : Mem
lent = mem blank away taken held dirty

matched : (o : List ℕ) → length o ≡ 16 → Matched taken o
matched o e = record { full = full; bytes = e }

is_lent : Lent taken held dirty
is_lent = record { matched = matched held refl; backed = dirty_backed held (lit≤ tt) }

pages_two : (config_of bytes).pool.pages ≡ 2
pages_two = bytes_same.pool_pages

host_is : 65536 ≡ (config_of bytes).pool.host
host_is = sym bytes_same.pool_host

pub start_ok : StartSays bytes lent started (Ok tt)
start_ok =
    starts bytes lent started 65536 (Ok 2) (Ok tt) bytes_small
    (record { right = right; room = has_room bytes 2 bytes_same; frames = record { lent = is_lent; pages = rw pages_two (lit≤ tt); frames = rw pages_two (lit≤ tt) } }, host_is)
    (record { long = refl; right = record { means = means; ok = ok; number = sym (two_machines bytes 2 bytes_same) }; is = loaded })
    (record { long = refl; zero = λ k. zero_word 22 k })
    init_ok

-- ---- refusals

pub start_no_table : StartSays bytes (mem [] away taken held dirty) (mem [] away taken held dirty) (Err NotStarted.NoTable)
start_no_table = (refl, λ e. omega (arith, e))

-- what the check of a configuration refuses
pub start_config_each : (s : List ℕ) (why : Reason) → RefusedSays s why → StartSays s lent lent (Err (NotStarted.Config why))
start_config_each s why r = (refl, (refl, r))

-- one word for two machines
pub start_zones_wrong : StartSays bytes (mem blank short taken held dirty) (mem blank short taken held dirty) (Err (NotStarted.Zones BadZones.Wrong))
start_zones_wrong = (refl, (right, λ s. let e = rw (two_machines bytes 2 bytes_same) at s.exact in omega (arith, e)))

-- no slot for the first machine's region
pub start_zones_few_slots : StartSays bytes (mem blank tight taken held dirty) (mem blank tight taken held dirty) (Err (NotStarted.Zones (BadZones.FewSlots 0)))
unfolding slots_in
start_zones_few_slots = (refl, (right, crowded))
  where
    crowded : Crowded bytes tight 0
    crowded =
        record {
          shaped = record { exact = rw (two_machines bytes 2 bytes_same) refl };
          machine = rw (two_machines bytes 2 bytes_same) (lit< tt);
          more = rw (two_machines bytes 2 bytes_same, one_region bytes 2 bytes_same 0 (lit< tt)) (lit< tt);
          first = λ k l. absurd (omega arith);
        }

pub start_frames_unfit_not_full : StartSays bytes (mem blank away [] held dirty) (mem blank away [] held dirty) (Err (NotStarted.Frames (BadFrames.Unfit Unfit.NotFull)))
start_frames_unfit_not_full = (refl, (right, has_room bytes 2 bytes_same, not_full_lem))

pub start_frames_unfit_unmatched : StartSays bytes (mem blank away taken few dirty) (mem blank away taken few dirty) (Err (NotStarted.Frames (BadFrames.Unfit Unfit.Unmatched)))
start_frames_unfit_unmatched = (refl, (right, has_room bytes 2 bytes_same, (full, λ e. omega (arith, e))))

pub start_frames_unfit_bad_base_never : (s : List ℕ) (b b' : Mem) → StartSays s b b' (Err (NotStarted.Frames (BadFrames.Unfit Unfit.BadBase))) → ⊥
start_frames_unfit_bad_base_never s b b' x = x.1.2

pub start_frames_unbacked : StartSays bytes (mem blank away taken held word) (mem blank away taken held word) (Err (NotStarted.Frames BadFrames.Unbacked))
start_frames_unbacked = (refl, (right, has_room bytes 2 bytes_same, (matched held refl, unbacked held)))

-- sixteen frames for seventeen pages
pub start_frames_few_frames : StartSays wide_bytes lent lent (Err (NotStarted.Frames BadFrames.FewFrames))
start_frames_few_frames = (refl, (wide_right, has_room wide_bytes 17 wide_same, (is_lent, rw wide_same.pool_pages (lit< tt))))

-- three frames with contents for two pages
pub start_frames_few_pages : StartSays bytes (mem blank away taken held (replicate 1536 0)) (mem blank away taken held (replicate 1536 0)) (Err (NotStarted.Frames BadFrames.FewPages))
start_frames_few_pages = (
  refl,
  (right, has_room bytes 2 bytes_same, (record { matched = matched held refl; backed = record { whole = refl; few = lit≤ tt } }, rw pages_two (lit≤ tt), rw pages_two (lit< tt))),
)
