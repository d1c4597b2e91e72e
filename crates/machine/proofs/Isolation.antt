-- Who reaches what, in every state that is `Good` and so after every sequence of requests and writes: no two machines but by sharing, no
-- machine what is the monitor's, and every frame is accounted for. Assumes nothing.
use mathlib.Core.Path.{◌≡◌, refl, sym, ◌∙◌, ap, subst}
use mathlib.Core.Bool.{Bool, true, false}
use mathlib.Core.Logic.{◌⊎◌, inl, inr}
use mathlib.Core.List.{List}
use Prim.Native.Nat.{ℕ, ◌-◌, ◌/◌, ◌<◌}
use native.Mathlib.Decide.{dec_lt}
use native.Mathlib.Omega.{arith}
use Rattle.base.proofs.Choices.{never}
use Rattle.address.specs.declared.Region.{Region}
use Rattle.address.specs.Pages.{InPages}
use Rattle.config_model.specs.Config.{Config, Has, MayShare}
use Rattle.set_model.specs.Sets.{same, any, In}
use Rattle.set_model.proofs.Lists.{every_in, table_in}
use Rattle.owners.specs.States as frames
use Rattle.owners.specs.States.{State.Free, State.Reserved, State.Owned}
use Rattle.machine.specs.declared.Which.{Which}
use Rattle.machine.specs.State.{Plan, State, address_of}
use Rattle.machine.specs.Run.{Event, run}
use Rattle.machine.specs.Reach.{Way, Way.ByRegion, Way.ByFrame, Reach, SharedBy, OfPool, OwnsPage, MonitorReach}
use Rattle.machine.specs.Good.{given, Good}
use Rattle.machine.proofs.Frames.{free_not_owned, owned_once}
use Rattle.owners.proofs.States.{client_not_reserved}
use Rattle.machine.proofs.Keeps.{owned_usable, run_good}

-- r is a region of the configuration, of machine m
record Configured (c : Config) (m : ℕ) (r : Region) : Type 0 where
  place : ℕ
  has : Has c m place
  is : r ≡ c.region m place

module _ (p : Plan) (s : State) (g : Good p s) where
  -- a machine that has a region is there
  has_region : (m : ℕ) (w : Which) (r : Region) → In r (s.set m w) → s.present m ≡ true
  has_region m w r i = go (s.present m) refl
    where
      go : (b : Bool) → s.present m ≡ b → s.present m ≡ true
      go true e = e
      go false e = never (sym (subst (λ (l : List Region). any (same r) l ≡ true) ((g.sets m w).empty e) i))

  -- a region of a set is one that the configuration gives the machine
  configured : (m : ℕ) (w : Which) (r : Region) → In r (s.set m w) → Configured p.config m r
  configured m w r i =
      let x = table_in r (p.config.region m) (p.config.count m) (every_in (given p.config m w) r (s.set m w) i (g.sets m w).whole) in
      record { place = x.0; has = record { machine = g.known m (has_region m w r i); region = x.1 }; is = x.2 }

  -- the page of a frame that a machine owns is one of the allocator's region
  owned_pool : (m k page : ℕ) → s.frame k ≡ Owned m → page ≡ address_of p k / 4096 → OfPool p page
  owned_pool m k page e q =
      let u = owned_usable p s g m k e in
      let l = g.plan.pages in
      record { low = omega arith; high = omega arith }

  -- no region of a set has a page of the allocator's
  region_off_pool : (m : ℕ) (w : Which) (r : Region) (page : ℕ) → In r (s.set m w) → InPages r.host r.pages page → OfPool p page → ⊥
  region_off_pool m w r page i h o =
      let c = configured m w r i in
      g.plan.config.pool_alone m c.place c.has (record { page = page; first = o; second = subst (λ (x : Region). InPages x.host x.pages page) c.is h })

  -- frames at one page are one
  one_frame : (k k' page : ℕ) → page ≡ address_of p k / 4096 → page ≡ address_of p k' / 4096 → k ≡ k'
  one_frame k k' page e f = omega arith

  pub isolated_now : (m m' page : ℕ) (a b : Way) → (m ≡ m' → ⊥) → Reach p s m page a → Reach p s m' page b → SharedBy m a m' b
  isolated_now m m' page (ByRegion w r) (ByRegion w' r') d x y =
      let c = configured m w r x.0 in
      let c' = configured m' w' r' y.0 in
      subst (λ (z : Region). MayShare m m' z r') (sym c.is)
      (subst (λ (z : Region). MayShare m m' (p.config.region m c.place) z) (sym c'.is)
      (g.plan.config.hosts m c.place m' c'.place c.has c'.has (λ e f. d e)
      (record { page = page; first = subst (λ (z : Region). InPages z.host z.pages page) c.is x.1; second = subst (λ (z : Region). InPages z.host z.pages page) c'.is y.1 })))
  isolated_now m m' page (ByRegion w r) (ByFrame k) d x y = region_off_pool m w r page x.0 x.1 (owned_pool m' k page y.0 y.1)
  isolated_now m m' page (ByFrame k) (ByRegion w r) d x y = region_off_pool m' w r page y.0 y.1 (owned_pool m k page x.0 x.1)
  isolated_now m m' page (ByFrame k) (ByFrame k') d x y = d (owned_once m m' (sym x.0 ∙ ap s.frame (one_frame k k' page x.1 y.1) ∙ y.0))

  -- no machine reaches a page of the monitor's
  pub monitor_alone : (m page : ℕ) (a : Way) → Reach p s m page a → MonitorReach p s page → ⊥
  monitor_alone m page (ByRegion w r) x o = region_off_pool m w r page x.0 x.1 o.pool
  monitor_alone m page (ByFrame k) x o = o.unowned m (record { frame = k; is = x.0; page_is = x.1 })

  -- a page has one owner
  pub owner_once : (m m' page : ℕ) → OwnsPage p s m page → OwnsPage p s m' page → m ≡ m'
  owner_once m m' page x y = owned_once m m' (sym x.is ∙ ap s.frame (one_frame x.frame y.frame page x.page_is y.page_is) ∙ y.is)

  -- a page of the allocator's region is the monitor's, or that of a machine that is there
  pub monitor_or_machine : (page : ℕ) → OfPool p page → MonitorReach p s page ⊎ ((m : ℕ) × (s.present m ≡ true) × OwnsPage p s m page)
  monitor_or_machine page o = go (s.frame k) refl
    where
      k : ℕ
      k = page - p.config.pool.host / 4096

      here : page ≡ address_of p k / 4096
      here = let l = o.low in omega arith

      unowned : (f : frames.State) → s.frame k ≡ f → ((m : ℕ) → f ≡ Owned m → ⊥) → MonitorReach p s page
      unowned f e n = record { pool = o; unowned = λ m x. n m (sym e ∙ ap s.frame (one_frame k x.frame page here x.page_is) ∙ x.is) }

      go : (f : frames.State) → s.frame k ≡ f → MonitorReach p s page ⊎ ((m : ℕ) × (s.present m ≡ true) × OwnsPage p s m page)
      go Free e = inl (unowned Free e (λ m. free_not_owned m))
      go Reserved e = inl (unowned Reserved e (λ m x. client_not_reserved m (sym x)))
      go (Owned c) e = inr (c, g.frames.owner c k e, record { frame = k; is = e; page_is = here })

-- After every sequence of requests and writes, of any machines in any order:

-- two machines reach a page only by shared regions that the configuration lets coincide
pub isolated : (p : Plan) (s : State) → Good p s → (xs : List Event) (m m' page : ℕ) (a b : Way) → (m ≡ m' → ⊥) → Reach p (run p s xs) m page a → Reach p (run p s xs) m' page b → SharedBy m a m' b
isolated p s g xs = isolated_now p (run p s xs) (run_good p s xs g)

-- every page of the allocator's region is the monitor's or that of one machine, and no machine reaches the monitor's
pub record Apart (p : Plan) (s : State) : Type 0 where
  pub alone : (m page : ℕ) (a : Way) → Reach p s m page a → MonitorReach p s page → ⊥
  pub one : (page : ℕ) → OfPool p page → MonitorReach p s page ⊎ ((m : ℕ) × (s.present m ≡ true) × OwnsPage p s m page)
  pub once : (m m' page : ℕ) → OwnsPage p s m page → OwnsPage p s m' page → m ≡ m'

pub monitor_apart : (p : Plan) (s : State) → Good p s → (xs : List Event) → Apart p (run p s xs)
monitor_apart p s g xs =
    let h = run_good p s xs g in
    record { alone = monitor_alone p (run p s xs) h; one = monitor_or_machine p (run p s xs) h; once = owner_once p (run p s xs) h }

-- a frame is free, reserved, or owned by a machine that is there, and by no other
pub data Account (s : State) (k : ℕ) : Type 0 where
  IsFree : s.frame k ≡ Free → Account s k
  IsReserved : s.frame k ≡ Reserved → Account s k
  IsOwned : (m : ℕ) → s.frame k ≡ Owned m → s.present m ≡ true → ((m' : ℕ) → s.frame k ≡ Owned m' → m' ≡ m) → Account s k

pub accounted_now : (p : Plan) (s : State) → Good p s → (k : ℕ) → Account s k
accounted_now p s g k = go (s.frame k) refl
  where
    go : (f : frames.State) → s.frame k ≡ f → Account s k
    go Free e = IsFree e
    go Reserved e = IsReserved e
    go (Owned m) e = IsOwned m e (g.frames.owner m k e) (λ m' x. owned_once m' m (sym x ∙ e))

-- every frame is accounted for
pub accounted : (p : Plan) (s : State) → Good p s → (xs : List Event) (k : ℕ) → Account (run p s xs) k
accounted p s g xs = accounted_now p (run p s xs) (run_good p s xs g)

-- where two states are `Good`, the same frames are reserved in both
pub same_reserved : (p : Plan) (k : ℕ) (a : State) → Good p a → (b : State) → Good p b → a.frame k ≡ Reserved → b.frame k ≡ Reserved
same_reserved p k a x b y e = go (dec_lt k p.usable)
  where
    go : Dec (k < p.usable) → b.frame k ≡ Reserved
    go (yes l) = absurd (x.frames.others k l e)
    go (no l) = y.frames.reserved k (omega (arith, l))

-- and the reserved ones are those that they were
pub reserved_stay : (p : Plan) (s : State) → Good p s → (xs : List Event) (k : ℕ) → (s.frame k ≡ Reserved → (run p s xs).frame k ≡ Reserved) × ((run p s xs).frame k ≡ Reserved → s.frame k ≡ Reserved)
reserved_stay p s g xs k = let h = run_good p s xs g in (same_reserved p k s g (run p s xs) h, same_reserved p k (run p s xs) h s g)
