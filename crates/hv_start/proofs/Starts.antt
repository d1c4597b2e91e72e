-- That the start is made. Assumes nothing.
use mathlib.Core.Path.{◌≡◌, sym, ◌∙◌, ap, subst}
use mathlib.Core.List.{List}
use Rattle.std.specs.Prelude.{⊤, Result, Ok, Err}
use Prim.Native.Nat.{ℕ, ◌/◌}
use native.Mathlib.Omega.{arith}
use Rattle.config_model.specs.Config.{Same}
use Rattle.config_bytes.specs.Fields.{config_of, machines}
use Rattle.config.specs.declared.NotLoaded.{NotLoaded}
use Rattle.config.specs.Loading.{WasLoaded, LoadSays}
use Rattle.config.specs.Tables.{Writable}
use Rattle.config_theorems.proofs.Verdicts.{no_reason}
use Rattle.config_theorems.proofs.Strings.{Bytes, loaded_same, loaded_writable}
use Rattle.owners.specs.States.{state}
use Rattle.contents.specs.Contents.{frames_in, Clean}
use Rattle.claims.specs.declared.Unfit.{Unfit}
use Rattle.claims.specs.Fits.{Misfit}
use Rattle.frames_pool.specs.declared.NotBegun.{NotBegun}
use Rattle.frames_pool.specs.Pool.{Init, InitSays}
use Rattle.machine.specs.Good.{PlanOk}
use Rattle.zones.specs.Layout.{slots_in, Shaped}
use Rattle.hv_state.specs.Memory.{Mem, config_in, slots_of, plan_of}
use Rattle.hv_state.proofs.Zones.{slots_kept, shaped_kept}
use Rattle.hv_state.proofs.Beginning.{Begins, means_start, begins_sound}
use Rattle.hv_start.specs.Starting.{Right, Framed, Ready, Zeros, WasStarted, MayStartSays}
use Rattle.hv_start.proofs.Empty.{frames_zero}

-- ---- what was found right is not refused afterwards

-- the table is loaded
record IsLoaded (s t t' : List ℕ) : Type 0 where
  number : ℕ
  was : WasLoaded s t number t'

loads : (s t t' : List ℕ) (r : Result ℕ NotLoaded) → Right s t → LoadSays s t t' r → IsLoaded s t t'
loads s t t' (Ok n) h x = record { number = n; was = x }
loads s t t' (Err (NotLoaded.Refused why)) h x = absurd (no_reason s why h.means h.ok x.2)
loads s t t' (Err NotLoaded.NoTable) h x = absurd (x.1 h.long)

-- and the frames are
module _ (s a t o w t' o' w' : List ℕ) (base : ℕ) (h : Right s a) (f : Framed s t o w) (e : base ≡ (config_of s).pool.host) where
  fits_not : (why : Unfit) → Misfit base t o why → ⊥
  fits_not Unfit.NotFull x = x f.lent.matched.full
  fits_not Unfit.Unmatched x = x.1 f.lent.matched.bytes
  fits_not Unfit.BadBase x = x.1 (rw e h.ok.pool_valid.on.host_start)

  begins : (r : Result ⊤ NotBegun) → InitSays base t o w t' o' w' r → Init (config_of s).pool.host t o w t' o' w'
  begins (Ok _) x = subst (λ (k : ℕ). Init k t o w t' o' w') e x
  begins (Err NotBegun.Unbacked) x = absurd (x.1 f.lent.backed)
  begins (Err NotBegun.TooHigh) x = absurd (let l = x.2 in let v = h.ok.pool_valid.host_end in let u = f.frames in omega arith)
  begins (Err (NotBegun.Unfit why)) x = absurd (fits_not why x.2)

-- ---- the memories afterwards

module _ (s : List ℕ) (b b' : Mem) (small : Bytes s) (r : Ready s b) (l : IsLoaded s b.table b'.table) (e : Zeros b.zones b'.zones) (i : Init (config_of s).pool.host b.tree b.owners b.words b'.tree b'.owners b'.words) where
  same : Same (config_in b') (config_of s)
  same = loaded_same s b.table l.number b'.table small l.was

  writable : Writable b'.table
  writable = loaded_writable s b.table l.number b'.table small l.was

  usable : frames_in b'.words ≡ frames_in b.words
  usable = ap (λ (x : ℕ). x / 512) i.wiped.long

  slots_are : slots_of b' ≡ slots_in b.zones (machines s)
  slots_are = slots_kept b.zones b'.zones (config_in b').machines e.long ∙ ap (slots_in b.zones) same.machines

  shaped : Shaped b'.zones (config_in b').machines
  shaped = shaped_kept b.zones b'.zones (config_in b').machines e.long (subst (Shaped b.zones) (sym same.machines) r.room.shaped)

  plan_ok : PlanOk (plan_of b')
  plan_ok =
      record {
        config = writable.ok;
        room = λ m h. let q = same.machines in let c = same.count m h in let k = r.room.slots m (omega arith) in let z = slots_are in omega arith;
        pages = let p = same.pool_pages in let u = usable in let k = r.frames.frames in omega arith;
        frames = let p = same.pool_pages in let c = i.begun.words in let k = r.frames.pages in omega arith;
      }

  begins_here : Begins b'
  begins_here =
      record {
        table = writable;
        plan = plan_ok;
        shaped = shaped;
        none = e.zero;
        frames = subst (λ (x : ℕ). Clean x b'.tree b'.owners b'.words) (sym same.pool_host) i.clean;
        free = λ k h. i.begun.free k (let u = usable in omega arith);
        cleared = frames_zero b.words b'.words r.frames.lent.backed.whole i.wiped;
      }

  was_started : WasStarted s b b'
  was_started =
      record {
        right = r.right;
        table = l.was.is;
        sound = begins_sound b' begins_here;
        state = means_start b' begins_here;
        zones = e.long;
        tree = i.begun.words;
        owners = i.begun.bytes;
        words = i.wiped.long;
      }

-- from what was found right, and what the three that write the memories answered
pub starts : (s : List ℕ) (b b' : Mem) (base : ℕ) (l : Result ℕ NotLoaded) (i : Result ⊤ NotBegun) → Bytes s → MayStartSays s b (Ok base) → LoadSays s b.table b'.table l → Zeros b.zones b'.zones → InitSays base b.tree b.owners b.words b'.tree b'.owners b'.words i → WasStarted s b b'
starts s b b' base l i small r x e y =
    was_started s b b' small r.0 (loads s b.table b'.table l r.0.right x) e
    (begins s b.table b.tree b.owners b.words b'.tree b'.owners b'.words base r.0.right r.0.frames r.1 i y)
