-- Sound memories are there at every size: for each number of machines and of regions of each, each number of slots that these fit in, each
-- number of pages of the allocator's region, each size of a tree that has as many frames, and each number of frames that have contents.
-- Assumes nothing.
use mathlib.Core.Path.{◌≡◌, sym, ◌∙◌, ap, subst}
use mathlib.Core.List.{List}
use Prim.Native.Nat.{ℕ, ◌+◌, ◌*◌, ◌/◌, ◌^◌, ◌≤◌, ◌<◌}
use native.Mathlib.Omega.{arith}
use lib.ListN.{length, replicate, length-replicate}
use Rattle.base.proofs.Ranges.{zero_word}
use Rattle.bitmap_tree.specs.Tree.{cap}
use Rattle.owners.specs.States.{State.Free, state}
use Rattle.contents.specs.Contents.{frames_in, Clean}
use Rattle.contents.proofs.Sizes as contents
use Rattle.config_model.specs.Config.{Config, ConfigOk, Same}
use Rattle.config_model.proofs.Sizes as config
use Rattle.config_model.proofs.Sizes.{sized}
use Rattle.config_view.specs.Table.{table_config}
use Rattle.config_view.proofs.Tables.{table_of, table_of_lem}
use Rattle.config.specs.Tables.{Writable}
use Rattle.config_theorems.proofs.Round.{same_back, ok_same, table_same}
use Rattle.config_theorems.proofs.Strings.{table_config_lem}
use Rattle.machine.specs.Good.{PlanOk}
use Rattle.zones.specs.Layout.{stride}
use Rattle.zones.proofs.Laws.{slots_back, shaped_by}
use Rattle.hv_state.specs.Memory.{Mem, config_in, slots_of, plan_of, Sound}
use Rattle.hv_state.specs.Serving.{mem}
use Rattle.hv_state.proofs.Beginning.{Begins, begins_sound}

-- c is a right configuration that has a table
pub record Right (c : Config) : Type 0 where
  pub ok : ConfigOk c
  pub few : c.machines ≤ 64
  pub counts : (m : ℕ) → m < c.machines → c.count m ≤ 32
  pub numbers : (m : ℕ) → m < c.machines → c.number m < 65536

-- the slots have room for its regions, a tree of so many levels has the frames of its pages, and so many of these have contents
pub record Fits (c : Config) (slots levels usable : ℕ) : Type 0 where
  pub room : (m : ℕ) → m < c.machines → c.count m ≤ slots
  pub some : 0 < levels
  pub most : levels ≤ 15
  pub tree : c.pool.pages ≤ 16 ^ levels
  pub backed : usable ≤ c.pool.pages

-- words that say that no machine is there
abbrev pub nobody_there : Config → ℕ → List ℕ
nobody_there c slots = replicate (c.machines * stride slots) 0

-- cleared frames
abbrev pub cleared : ℕ → List ℕ
cleared usable = replicate (512 * usable) 0

frames_are : (usable : ℕ) → frames_in (cleared usable) ≡ usable
frames_are usable = let e = length-replicate {A = ℕ} (512 * usable) 0 in rw e (let q : 512 * usable / 512 ≡ usable = omega arith in q)

-- ---- every configuration

module _ (c : Config) (r : Right c) where
  -- its table is one, and holds it
  pub same : Same (table_config (table_of c)) c
  same = table_config_lem c (table_of c) r.few r.counts r.numbers (table_of_lem c)

  writable : Writable (table_of c)
  writable = record { table = table_same (same_back same) (table_of c) (table_of_lem c); ok = ok_same (same_back same) r.ok }

  module _ (slots levels usable : ℕ) (f : Fits c slots levels usable) where
    long : length (nobody_there c slots) ≡ (table_config (table_of c)).machines * stride slots
    long = length-replicate {A = ℕ} (c.machines * stride slots) 0 ∙ ap (λ (x : ℕ). x * stride slots) (sym same.machines)

    -- memories that begin
    module _ (t o : List ℕ) (size : cap t ≡ 16 ^ levels) (clean : Clean c.pool.host t o (cleared usable)) (free : (k : ℕ) → k < usable → state t o k ≡ Free) where
      abbrev lent : Mem
      lent = mem (table_of c) (nobody_there c slots) t o (cleared usable)

      plan_ok : PlanOk (plan_of lent)
      plan_ok =
          record {
            config = writable.ok;
            room = λ m l. let e = same.machines in let q = same.count m l in let k = f.room m (omega arith) in let z = slots_back lent.zones (config_in lent).machines slots long (omega arith) in omega arith;
            pages = let u = frames_are usable in let p = same.pool_pages in let b = f.backed in omega arith;
            frames = let p = same.pool_pages in let h = f.tree in omega arith;
          }

      begins : Begins lent
      begins =
          record {
            table = writable;
            plan = plan_ok;
            shaped = shaped_by lent.zones (config_in lent).machines slots long;
            none = λ k. zero_word (c.machines * stride slots) k;
            frames = subst (λ (x : ℕ). Clean x t o (cleared usable)) (sym same.pool_host) clean;
            free = λ k l. free k (let u = frames_are usable in omega arith);
            cleared = λ k. zero_word (512 * usable) k;
          }

    -- a tree and owners with which they are sound
    pub every_configuration : (t : List ℕ) × (o : List ℕ) × (cap t ≡ 16 ^ levels) × Sound (mem (table_of c) (nobody_there c slots) t o (cleared usable))
    every_configuration =
        let v = r.ok.pool_valid in
        let b = f.backed in
        let h = f.tree in
        let e = v.host_end in
        let x = contents.every_size levels c.pool.host usable f.some f.most v.on.host_start (omega arith) (omega arith) in
        (x.0, x.1, x.2, begins_sound (lent x.0 x.1 x.2 x.4 x.5) (begins x.0 x.1 x.2 x.4 x.5))

-- ---- every size

-- sound memories of these sizes
pub record Example (machines : ℕ) (count : ℕ → ℕ) (slots pages levels usable : ℕ) : Type 0 where
  pub memories : Mem
  pub sound : Sound memories
  pub known : (config_in memories).machines ≡ machines
  pub regions : (m : ℕ) → m < machines → (config_in memories).count m ≡ count m
  pub slotted : 0 < machines → slots_of memories ≡ slots
  pub pool : (config_in memories).pool.pages ≡ pages
  pub frames : cap memories.tree ≡ 16 ^ levels
  pub contents : frames_in memories.words ≡ usable

pub every_size : (n : ℕ) (count : ℕ → ℕ) (slots pages levels usable : ℕ) → n ≤ 64 → ((m : ℕ) → m < n → count m ≤ 32) → 0 < pages → 8388608 + 4096 * pages < 2 ^ 64
    → Fits (sized n count pages) slots levels usable → Example n count slots pages levels usable
every_size n count slots pages levels usable few counts some high f =
    let c = sized n count pages in
    let r : Right c = record { ok = config.every_size n count pages few counts some high; few = few; counts = counts; numbers = λ m l. omega arith } in
    let x = every_configuration c r slots levels usable f in
    let e = (same c r).machines in
    record {
      memories = mem (table_of c) (nobody_there c slots) x.0 x.1 (cleared usable);
      sound = x.3;
      known = e;
      regions = λ m l. (same c r).count m (omega arith);
      slotted = λ l. slots_back (nobody_there c slots) (table_config (table_of c)).machines slots (long c r slots levels usable f) (omega arith);
      pool = (same c r).pool_pages;
      frames = x.2;
      contents = frames_are usable;
    }
