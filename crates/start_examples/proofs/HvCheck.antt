-- An example of every answer of the check of memories. Assumes nothing.
use mathlib.Core.Path.{◌≡◌, refl, sym, ap, subst}
use mathlib.Core.List.{List, [], ◌∷◌}
use Prim.Native.Nat.{ℕ, ◌+◌, ◌*◌, ◌≤◌, ◌<◌}
use native.Mathlib.Nat.{zero-mul}
use native.Mathlib.Omega.{arith}
use lib.Dec.{lit<, lit≤}
use lib.ListN.{length, get_or, replicate}
use Rattle.std.proofs.Common.{Ok, Err}
use Rattle.bitmap_examples.proofs.Trees.{one, taken, not_full_lem}
use Rattle.allocator_examples.proofs.Memories.{nobody, all_reserved, behind_free, accounted_free, accounted_reserved}
use Rattle.frames_examples.proofs.Words.{zeros, zeros_backed, zero_frame, clean_free}
use Rattle.address.specs.declared.Region.{Region}
use Rattle.config_view.specs.Table.{table_config}
use Rattle.set_slots.specs.Slots.{SetOk}
use Rattle.base.proofs.Ranges.{zero_word}
use Rattle.contents.specs.Contents.{Clean}
use Rattle.region_words.specs.Words.{number_of, nothing, HasRegion}
use Rattle.config_view.proofs.Tables.{table_of}
use Rattle.config_examples.proofs.Pairs.{fork, below_two}
use Rattle.config_examples.proofs.Truck.{table, writable, machines_is, count_is, pool_is}
use Rattle.machine.specs.declared.Which.{Which}
use Rattle.machine.specs.declared.Which.TheVariants.{Processors, Devices}
use Rattle.zones.specs.Layout.{stride, slots_in, place_of, set_at, Shaped}
use Rattle.hv_state.specs.Memory.{Mem, present_in, set_place, Sound}
use Rattle.hv_state.specs.Serving.{mem}
use Rattle.hv_state.proofs.Sizes as sizes
use Rattle.hv_state.proofs.Sizes.{same, every_configuration}
use Rattle.hv_check.specs.declared.Fault.{Fault}
use Rattle.hv_check.specs.declared.NotSound.{NotSound}
use Rattle.hv_check.specs.Checking.{CheckSays, FaultSays, FrameRight, FrameOf, InOrder}
use Rattle.hv_check.proofs.Parts.{sound_machine}
use Rattle.hv_set_right.specs.Right.{SetRight}
use Rattle.machine_examples.proofs.Memories.{away, slots_one, is_zone, none_ok, regions_none}
use Rattle.machine_examples.proofs.HvRequest.{started}
use Rattle.start_examples.proofs.Lent.{tight, short, wide, wide_ok}
use Rattle.start_examples.proofs.HvStart.{start_ok}

pub check_ok : CheckSays started (Ok tt)
check_ok = start_ok.sound

pub check_table : CheckSays (mem [] away one nobody zeros) (Err NotSound.Table)
check_table = (λ w. let e = w.table.long in omega (arith, e), λ s. let e = s.table.table.long in omega (arith, e))

-- one word for two machines
unshaped : Shaped short (table_config table).machines → ⊥
unshaped s = let e = rw machines_is at s.exact in omega (arith, e)

pub check_zones : CheckSays (mem table short one nobody zeros) (Err NotSound.Zones)
check_zones = ((writable, unshaped), λ s. unshaped s.zones.flagged.shaped)

-- ---- a machine's words

-- the first machine is there, and begins at the first word
some_machine : 0 < (table_config table).machines
some_machine = rw machines_is (lit< tt)

place_first : (slots : ℕ) → place_of slots 0 ≡ 0
unfolding place_of
place_first slots = zero-mul (stride slots)

-- its words are wrong
wrong : (z : List ℕ) (why : Fault) → Shaped z (table_config table).machines → FaultSays (table_config table) z (slots_in z (table_config table).machines) 0 why
    → (Sound (mem table z one nobody zeros) → ⊥) → CheckSays (mem table z one nobody zeros) (Err (NotSound.Machine 0 why))
wrong z why h f n = ((writable, h, record { machine = some_machine; before = λ k l. absurd (omega arith); is = f }), n)

no_slots : slots_in tight (table_config table).machines ≡ 0
unfolding slots_in
no_slots = rw machines_is refl

pub check_machine_few_slots : CheckSays (mem table tight one nobody zeros) (Err (NotSound.Machine 0 Fault.FewSlots))
check_machine_few_slots =
    wrong tight Fault.FewSlots (record { exact = rw (no_slots, machines_is) refl }) (rw (no_slots, count_is 0 (lit< tt)) (lit< tt))
    (λ s. let e = s.good.plan.room 0 some_machine in let q = rw (no_slots, count_is 0 (lit< tt)) at e in omega arith)

-- eleven words for each machine, of which the first have room for a region
module _ (z : List ℕ) (long : length z ≡ 22) where
  shaped : Shaped z (table_config table).machines
  shaped = (is_zone z long).shaped

  room : (table_config table).count 0 ≤ slots_in z (table_config table).machines
  room = rw (count_is 0 (lit< tt), slots_one z long) (lit≤ tt)

  flag : (v : ℕ) → get_or z 0 0 ≡ v → get_or z (place_of (slots_in z (table_config table).machines) 0) 0 ≡ v
  flag v e = rw (place_first (slots_in z (table_config table).machines)) e

  -- a set in one slot
  at_set : (w : Which) → (P : ℕ → ℕ → Type 0) → P (set_at 0 1 w) 1
      → P (set_at (place_of (slots_in z (table_config table).machines) 0) (slots_in z (table_config table).machines) w) (slots_in z (table_config table).machines)
  at_set w P p = rw (place_first (slots_in z (table_config table).machines), slots_one z long) p

  -- a set that counts nine regions there is not in order
  nine : (w : Which) → get_or z (set_at 0 1 w) 0 ≡ 9 → SetOk z (set_place z (table_config table).machines 0 w) (slots_in z (table_config table).machines) → ⊥
  nine w e k =
      let q : get_or z (set_at 0 1 w) 0 ≤ 1 = rw (place_first (slots_in z (table_config table).machines), slots_one z long) at k.few in
      omega arith

-- a first word that is neither 0 nor 1
abbrev strange : List ℕ
strange = 2 ∷ replicate 21 0

pub check_machine_presence : CheckSays (mem table strange one nobody zeros) (Err (NotSound.Machine 0 Fault.Presence))
check_machine_presence =
    wrong strange Fault.Presence (shaped strange refl) (room strange refl, let e = flag strange refl 2 refl in omega arith)
    (λ s. let l = s.zones.flagged.flags 0 some_machine in let e = flag strange refl 2 refl in omega arith)

-- sets that count nine regions in one slot
abbrev crammed : List ℕ
crammed = 1 ∷ 9 ∷ replicate 20 0

abbrev loaded : List ℕ
loaded = 1 ∷ 0 ∷ 0 ∷ 0 ∷ 0 ∷ 0 ∷ 9 ∷ replicate 15 0

pub check_machine_processors : CheckSays (mem table crammed one nobody zeros) (Err (NotSound.Machine 0 Fault.Processors))
check_machine_processors =
    wrong crammed Fault.Processors (shaped crammed refl)
    (room crammed refl, (let e = flag crammed refl 1 refl in omega arith), λ r. nine crammed refl Processors refl r.ok)
    (λ s. nine crammed refl Processors refl (s.zones.sets 0 some_machine Processors))

pub check_machine_devices : CheckSays (mem table loaded one nobody zeros) (Err (NotSound.Machine 0 Fault.Devices))
unfolding number_of
check_machine_devices =
    wrong loaded Fault.Devices (shaped loaded refl)
    (room loaded refl, (let e = flag loaded refl 1 refl in omega arith), at_set loaded refl Processors Right right, λ r. nine loaded refl Devices refl r.ok)
    (λ s. nine loaded refl Devices refl (s.zones.sets 0 some_machine Devices))
  where
    Right : ℕ → ℕ → Type 0
    Right at slots = SetRight (table_config table) loaded 0 Processors (get_or loaded (place_of (slots_in loaded (table_config table).machines) 0) 0) at slots

    no_region_lem : HasRegion loaded 2 nothing
    no_region_lem = record { guest = refl; host = refl; pages = refl; kind = refl }

    right : Right 1 1
    right = record { ok = none_ok loaded 1 refl no_region_lem; whole = rw (regions_none loaded 1 refl no_region_lem) tt; empty = λ n. regions_none loaded 1 refl no_region_lem }

-- ---- frames

-- the table and the machines' words of sound memories are right
in_order : (b : Mem) → Sound b → InOrder b
in_order b s =
    record {
      table = s.table;
      number = refl;
      laid = record { shaped = s.zones.flagged.shaped; is = refl; few = omega arith };
      right = λ m l. sound_machine b m s l;
    }

away_in_order : InOrder started
away_in_order = in_order started start_ok.sound

-- the allocator's region is at 65536
home : 65536 ≡ (table_config table).pool.host
home = sym (ap (λ (r : Region). r.host) pool_is)

pages_two : (table_config table).pool.pages ≡ 2
pages_two = ap (λ (r : Region). r.pages) pool_is

pub check_frames : CheckSays (mem table away [] nobody zeros) (Err NotSound.Frames)
check_frames = ((away_in_order, λ c. not_full_lem c.accounted.matched.full), λ s. not_full_lem s.frames.accounted.matched.full)

-- sixteen frames for seventeen pages
wide_right : sizes.Right wide
wide_right = record { ok = wide_ok; few = lit≤ tt; counts = λ m l. lit≤ tt; numbers = below_two (λ m. fork 7 9 m < 65536) (lit< tt) (lit< tt) }

pub check_few_frames : CheckSays (mem (table_of wide) away one nobody zeros) (Err NotSound.FewFrames)
check_few_frames =
    let k = same wide wide_right in
    let x = every_configuration wide wide_right 1 2 17 (record { room = λ m l. lit≤ tt; some = lit< tt; most = lit≤ tt; tree = lit≤ tt; backed = lit≤ tt }) in (
      (
        in_order (mem (table_of wide) away x.0 x.1 (replicate (512 * 17) 0)) x.3,
        subst (λ (h : ℕ). Clean h one nobody zeros) (sym k.pool_host) clean_free,
        rw k.pool_pages (lit< tt),
      ),
      λ s. let e = s.good.plan.frames in let q = rw k.pool_pages at e in omega arith,
    )

-- three frames with contents for two pages
abbrev three : List ℕ
three = replicate 1536 0

pub check_few_pages : CheckSays (mem table away one nobody three) (Err NotSound.FewPages)
check_few_pages = (
  (away_in_order, subst (λ (h : ℕ). Clean h one nobody three) home clean, rw pages_two (lit≤ tt), rw pages_two (lit< tt)),
  λ s. let e = s.good.plan.pages in let q = rw pages_two at e in omega arith,
)
  where
    clean : Clean 65536 one nobody three
    clean =
        record {
          accounted = accounted_free;
          backed = record { whole = refl; few = lit≤ tt };
          beyond = λ k l. let h : 3 ≤ k = l in behind_free k (omega arith);
          zero = λ k e i l. zero_word 1536 (512 * k + i);
        }

-- the first frame has contents and is reserved
abbrev closed : Mem
closed = mem table away taken nobody zeros

pub check_frame : CheckSays closed (Err (NotSound.Frame 0))
check_frame = (
  (
    away_in_order,
    subst (λ (h : ℕ). Clean h taken nobody zeros) home clean,
    rw pages_two (lit≤ tt),
    rw pages_two (lit≤ tt),
    record { within = lit< tt; stops = record { low = lit≤ tt; high = lit≤ tt; before = λ k l h. absurd (omega arith); fails = λ l. fails } },
  ),
  λ s. s.good.frames.others 0 (lit< tt) (all_reserved 0),
)
  where
    clean : Clean 65536 taken nobody zeros
    clean =
        record {
          accounted = accounted_reserved 65536 refl;
          backed = zeros_backed nobody (lit≤ tt);
          beyond = λ k l. all_reserved k;
          zero = λ k e. zero_frame k;
        }

    fails : FrameOf closed 0 → ⊥
    fails f = subst (FrameRight (present_in away (table_config table).machines)) (all_reserved 0) f
