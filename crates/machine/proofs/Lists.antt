-- A list of requests: equal to doing them one by one where all succeed, and nothing where one is refused. Assumes nothing.
use mathlib.Core.Path.{◌≡◌, refl, sym, ◌∙◌, ap}
use mathlib.Core.Bool.{Bool, true, false}
use mathlib.Core.List.{List, [], ◌∷◌}
use Prim.Native.Nat.{ℕ}
use Rattle.base.specs.Choices.{pick}
use Rattle.base.proofs.Choices.{never}
use Rattle.machine.specs.declared.Request.{Request}
use Rattle.machine.specs.declared.Answer.{Answer}
use Rattle.machine.specs.State.{Plan, State}
use Rattle.machine.specs.Step.{step}
use Rattle.machine.specs.Lists.{Call.One, Call.All, Reply, Reply.Stopped, is_done, Tried, Tried.Through, Tried.Halted, before, tries, all_or_none, call}
use Rattle.machine.specs.Run.{Event, Event.Asks, run}

-- the requests one by one
abbrev pub ones : ℕ → List Request → List Event
ones number [] = []
ones number (q ∷ qs) = Asks number (One q) ∷ ones number qs

-- what they are answered one by one
abbrev pub answers_to : Plan → State → ℕ → List Request → List Answer
answers_to p s number [] = []
answers_to p s number (q ∷ qs) = (step p s number q).answer ∷ answers_to p (step p s number q).state number qs

-- the list went through with the answers l and the state t
pub record WentThrough (p : Plan) (s : State) (number : ℕ) (qs : List Request) (l : List Answer) (t : State) : Type 0 where
  pub state : t ≡ run p s (ones number qs)
  pub answers : l ≡ answers_to p s number qs

-- of what was tried: it is as one by one where it went through
abbrev AsEach : Plan → State → ℕ → List Request → Tried → Type 0
AsEach p s number qs (Through l t) = WentThrough p s number qs l t
AsEach p s number qs (Halted i why) = Unit

tried_each : (p : Plan) (s : State) (number : ℕ) (qs : List Request) → AsEach p s number qs (tries p s number qs)
tried_each p s number [] = record { state = refl; answers = refl }
tried_each p s number (q ∷ qs) = go (is_done (step p s number q).answer) (tries p (step p s number q).state number qs) (tried_each p (step p s number q).state number qs)
  where
    go : (b : Bool) (x : Tried) → AsEach p (step p s number q).state number qs x → AsEach p s number (q ∷ qs) (pick b (before (step p s number q).answer x) (Halted 0 (step p s number q).answer))
    go true (Through l t) h = record { state = h.state; answers = λ i. (step p s number q).answer ∷ h.answers i }
    go true (Halted i why) h = tt
    go false x h = tt

-- the reply is that all was done
is_all : Reply → Bool
is_all (Reply.Answered a) = false
is_all (Reply.Done k) = true
is_all (Stopped i why) = false

-- the answers that it holds
listed : Reply → List Answer
listed (Reply.Answered a) = []
listed (Reply.Done k) = k
listed (Stopped i why) = []

-- A list that is done is as its requests one by one, answers included.
pub done_as_each : (p : Plan) (s : State) (number : ℕ) (qs : List Request) (l : List Answer) → (call p s number (All qs)).reply ≡ Reply.Done l → WentThrough p s number qs l (call p s number (All qs)).state
unfolding is_all listed
done_as_each p s number qs l = go (tries p s number qs) (tried_each p s number qs)
  where
    go : (x : Tried) → AsEach p s number qs x → (all_or_none s x).reply ≡ Reply.Done l → WentThrough p s number qs l (all_or_none s x).state
    go (Through k t) h e = record { state = h.state; answers = sym (ap listed e) ∙ h.answers }
    go (Halted i why) h e = never (sym (ap is_all e))

-- A list of which one is refused changes nothing at all.
pub stopped_nothing : (p : Plan) (s : State) (number : ℕ) (qs : List Request) (i : ℕ) (why : Answer) → (call p s number (All qs)).reply ≡ Stopped i why → (call p s number (All qs)).state ≡ s
unfolding is_all
stopped_nothing p s number qs i why = go (tries p s number qs)
  where
    go : (x : Tried) → (all_or_none s x).reply ≡ Stopped i why → (all_or_none s x).state ≡ s
    go (Through k t) e = never (ap is_all e)
    go (Halted j w) e = refl
