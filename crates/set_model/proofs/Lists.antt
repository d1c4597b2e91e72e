-- Lists of regions: what is in them, and that they stay in order. Assumes nothing.
use mathlib.Core.Path.{◌≡◌, refl, sym, ◌∙◌, ap}
use mathlib.Core.Bool.{Bool, true, false}
use mathlib.Core.Logic.{◌⊎◌, inl, inr}
use mathlib.Core.List.{List, [], ◌∷◌}
use Prim.Native.Nat.{ℕ, zero, suc, ◌+◌, ◌*◌, ◌<◌, ◌≤◌, suc-le-suc, zero-le}
use lib.Dec.{ltb}
use lib.ListN.{length}
use native.Mathlib.Nat.{not-suc-le-zero, le_of_suc-le-suc}
use native.Mathlib.Omega.{arith}
use borrow.Author.Tests.{lt-ltb, le-ltb, ltb-true, ltb-false}
use Rattle.base.specs.Choices.{pick}
use Rattle.base.proofs.Choices.{by, never}
use Rattle.address.specs.declared.Region.{Region}
use Rattle.address.specs.Regions.{Valid}
use Rattle.set_model.specs.Sets.{same, meets, any, In, Every, find, enter, without, table, From, Ordered}
use Rattle.set_model.proofs.Tests.{same_is, same_self, apart, meets_share, meets_turn}

-- ---- tests of lists

pub any_head : (p : Region → Bool) (x : Region) (xs : List Region) → any p (x ∷ xs) ≡ false → p x ≡ false
any_head p x xs = go (p x)
  where
    go : (b : Bool) → pick b true (any p xs) ≡ false → b ≡ false
    go true e = e
    go false e = refl

pub any_tail : (p : Region → Bool) (x : Region) (xs : List Region) → any p (x ∷ xs) ≡ false → any p xs ≡ false
any_tail p x xs = go (p x)
  where
    go : (b : Bool) → pick b true (any p xs) ≡ false → any p xs ≡ false
    go true e = never e
    go false e = e

-- by cases on whether the first passes
pub any_cases : {C : Type 0} (p : Region → Bool) (x : Region) (xs : List Region) → any p (x ∷ xs) ≡ true → (p x ≡ true → C) → (any p xs ≡ true → C) → C
any_cases {C} p x xs e a b = go (p x) refl e
  where
    go : (t : Bool) → p x ≡ t → pick t true (any p xs) ≡ true → C
    go true q f = a q
    go false q f = b f

pub any_here : (p : Region → Bool) (x : Region) (xs : List Region) → p x ≡ true → any p (x ∷ xs) ≡ true
any_here p x xs e = rw e

pub any_there : (p : Region → Bool) (x : Region) (xs : List Region) → any p xs ≡ true → any p (x ∷ xs) ≡ true
any_there p x xs e = go (p x)
  where
    go : (b : Bool) → pick b true (any p xs) ≡ true
    go true = refl
    go false = e

-- what is in a list passes what all of it pass
pub every_in : (p : Region → Bool) (x : Region) (l : List Region) → In x l → Every p l → p x ≡ true
every_in p x [] e a = never (sym e)
every_in p x (w ∷ ws) e a = any_cases (same x) w ws e (λ s. ap p (same_is x w s) ∙ a.0) (λ f. every_in p x ws f a.1)

-- what is in a list, and passes a test that no other does, shows that some does
pub in_any : (p : Region → Bool) (x : Region) (l : List Region) → In x l → p x ≡ true → any p l ≡ true
in_any p x [] e a = never (sym e)
in_any p x (w ∷ ws) e a = any_cases (same x) w ws e (λ s. any_here p w ws (sym (ap p (same_is x w s)) ∙ a)) (λ f. any_there p w ws (in_any p x ws f a))

-- the first that passes is in the list, and passes
pub find_in : (p : Region → Bool) (l : List Region) → any p l ≡ true → In (find p l) l
find_in p [] e = never (sym e)
find_in p (x ∷ xs) e = go (p x) refl e (find_in p xs)
  where
    go : (b : Bool) → p x ≡ b → pick b true (any p xs) ≡ true → (any p xs ≡ true → In (find p xs) xs) → In (pick b x (find p xs)) (x ∷ xs)
    go true q f more = any_here (same x) x xs (same_self x)
    go false q f more = any_there (same (find p xs)) x xs (more f)

pub find_passes : (p : Region → Bool) (l : List Region) → any p l ≡ true → p (find p l) ≡ true
find_passes p [] e = never (sym e)
find_passes p (x ∷ xs) e = go (p x) refl e (find_passes p xs)
  where
    go : (b : Bool) → p x ≡ b → pick b true (any p xs) ≡ true → (any p xs ≡ true → p (find p xs) ≡ true) → p (pick b x (find p xs)) ≡ true
    go true q f more = q
    go false q f more = more f

-- ---- entering and leaving

pub in_enter_new : (r : Region) (l : List Region) → In r (enter r l)
in_enter_new r [] = any_here (same r) r [] (same_self r)
in_enter_new r (x ∷ xs) = by (In r) (ltb r.guest x.guest) (r ∷ x ∷ xs) (x ∷ enter r xs) (λ e. any_here (same r) r (x ∷ xs) (same_self r)) (λ e. any_there (same r) x (enter r xs) (in_enter_new r xs))

pub in_enter_old : (r y : Region) (l : List Region) → In y l → In y (enter r l)
in_enter_old r y [] e = never (sym e)
in_enter_old r y (x ∷ xs) e =
    by (In y) (ltb r.guest x.guest) (r ∷ x ∷ xs) (x ∷ enter r xs) (λ t. any_there (same y) r (x ∷ xs) e)
    (λ t. any_cases (same y) x xs e (λ s. any_here (same y) x (enter r xs) s) (λ f. any_there (same y) x (enter r xs) (in_enter_old r y xs f)))

pub in_enter_only : (r y : Region) (l : List Region) → In y (enter r l) → In y l ⊎ (y ≡ r)
in_enter_only r y [] e = any_cases (same y) r [] e (λ s. inr (same_is y r s)) (λ f. never (sym f))
in_enter_only r y (x ∷ xs) e = go (ltb r.guest x.guest) e (in_enter_only r y xs)
  where
    more : In y xs ⊎ (y ≡ r) → In y (x ∷ xs) ⊎ (y ≡ r)
    more (inl a) = inl (any_there (same y) x xs a)
    more (inr b) = inr b

    go : (b : Bool) → In y (pick b (r ∷ x ∷ xs) (x ∷ enter r xs)) → (In y (enter r xs) → In y xs ⊎ (y ≡ r)) → In y (x ∷ xs) ⊎ (y ≡ r)
    go true f rest = any_cases (same y) r (x ∷ xs) f (λ s. inr (same_is y r s)) inl
    go false f rest = any_cases (same y) x (enter r xs) f (λ s. inl (any_here (same y) x xs s)) (λ g. more (rest g))

pub in_without : (p : Region → Bool) (y : Region) (l : List Region) → In y (without p l) → In y l
in_without p y [] e = e
in_without p y (x ∷ xs) e = go (p x) e (in_without p y xs)
  where
    go : (b : Bool) → In y (pick b xs (x ∷ without p xs)) → (In y (without p xs) → In y xs) → In y (x ∷ xs)
    go true f more = any_there (same y) x xs f
    go false f more = any_cases (same y) x (without p xs) f (λ s. any_here (same y) x xs s) (λ g. any_there (same y) x xs (more g))

-- what fails the test stays
pub in_without_stays : (p : Region → Bool) (y : Region) (l : List Region) → p y ≡ false → In y l → In y (without p l)
in_without_stays p y [] n e = e
in_without_stays p y (x ∷ xs) n e = go (p x) refl (in_without_stays p y xs n)
  where
    go : (b : Bool) → p x ≡ b → (In y xs → In y (without p xs)) → In y (pick b xs (x ∷ without p xs))
    go true q more = any_cases (same y) x xs e (λ s. never (sym q ∙ sym (ap p (same_is y x s)) ∙ n)) (λ f. f)
    go false q more = any_cases (same y) x xs e (λ s. any_here (same y) x (without p xs) s) (λ f. any_there (same y) x (without p xs) (more f))

pub enter_every : (p : Region → Bool) (r : Region) (l : List Region) → p r ≡ true → Every p l → Every p (enter r l)
enter_every p r [] h a = (h, tt)
enter_every p r (x ∷ xs) h a = by (Every p) (ltb r.guest x.guest) (r ∷ x ∷ xs) (x ∷ enter r xs) (λ e. (h, a)) (λ e. (a.0, enter_every p r xs h a.1))

pub without_every : (p q : Region → Bool) (l : List Region) → Every p l → Every p (without q l)
without_every p q [] a = tt
without_every p q (x ∷ xs) a = by (Every p) (q x) xs (x ∷ without q xs) (λ e. a.1) (λ e. (a.0, without_every p q xs a.1))

-- ---- order

from_lower : (a b : ℕ) (l : List Region) → a ≤ b → From b l → From a l
from_lower a b [] h f = tt
from_lower a b (x ∷ xs) h f = omega arith

enter_from : (addr : ℕ) (r : Region) (l : List Region) → addr ≤ r.guest → From addr l → From addr (enter r l)
enter_from addr r [] h f = h
enter_from addr r (x ∷ xs) h f = by (From addr) (ltb r.guest x.guest) (r ∷ x ∷ xs) (x ∷ enter r xs) (λ e. h) (λ e. f)

-- a valid region that meets none enters a set in order
pub enter_ordered : (r : Region) (l : List Region) → Valid r.guest r.host r.pages → Ordered l → any (meets r) l ≡ false → Ordered (enter r l)
enter_ordered r [] v o n = (v, tt, tt)
enter_ordered r (x ∷ xs) v o n =
    by Ordered (ltb r.guest x.guest) (r ∷ x ∷ xs) (x ∷ enter r xs)
    (λ e. let l = ltb-true r.guest x.guest e in (v, apart r x v o.0 (any_head (meets r) x xs n) (omega arith), o))
    (λ e. (o.0, enter_from (x.guest + 4096 * x.pages) r xs (apart x r o.0 v (meets_turn r x (any_head (meets r) x xs n)) (ltb-false r.guest x.guest e)) o.1, enter_ordered r xs v o.2 (any_tail (meets r) x xs n)))

without_from : (addr : ℕ) (p : Region → Bool) (l : List Region) → From addr l → Ordered l → From addr (without p l)
without_from addr p [] f o = tt
without_from addr p (x ∷ xs) f o = by (From addr) (p x) xs (x ∷ without p xs) (λ e. from_lower addr (x.guest + 4096 * x.pages) xs (omega arith) o.1) (λ e. f)

pub without_ordered : (p : Region → Bool) (l : List Region) → Ordered l → Ordered (without p l)
without_ordered p [] o = tt
without_ordered p (x ∷ xs) o = by Ordered (p x) xs (x ∷ without p xs) (λ e. o.2) (λ e. (o.0, without_from (x.guest + 4096 * x.pages) p xs o.1 o.2, without_ordered p xs o.2))

-- in a set, what stands behind a region meets it nowhere
pub behind_apart : (x : Region) (addr : ℕ) (l : List Region) → x.guest + 4096 * x.pages ≤ addr → From addr l → Ordered l → any (meets x) l ≡ false
behind_apart x addr [] h f o = refl
behind_apart x addr (y ∷ ys) h f o = rw (clear (meets x y) refl) (behind_apart x (y.guest + 4096 * y.pages) ys (omega arith) o.1 o.2)
  where
    clear : (b : Bool) → meets x y ≡ b → b ≡ false
    clear true e =
        let s = meets_share x y e in
        let a = s.first.high in
        let b = s.second.low in
        let c = s.first.low in
        absurd (omega arith)
    clear false e = refl

-- ---- tables

pub table_same : (f g : ℕ → Region) (n : ℕ) → ((i : ℕ) → i < n → f i ≡ g i) → table f n ≡ table g n
table_same f g zero h = refl
table_same f g (suc n) h = λ k. h zero (suc-le-suc zero-le) k ∷ table_same (λ i. f (suc i)) (λ i. g (suc i)) n (λ i l. h (suc i) (suc-le-suc l)) k

pub table_length : (f : ℕ → Region) (n : ℕ) → length (table f n) ≡ n
table_length f zero = refl
table_length f (suc n) = ap suc (table_length (λ i. f (suc i)) n)

pub table_none : (p : Region → Bool) (f : ℕ → Region) (n : ℕ) → ((i : ℕ) → i < n → p (f i) ≡ false) → any p (table f n) ≡ false
table_none p f zero h = refl
table_none p f (suc n) h = rw (h zero (suc-le-suc zero-le)) (table_none p (λ i. f (suc i)) n (λ i l. h (suc i) (suc-le-suc l)))

pub table_some : (p : Region → Bool) (f : ℕ → Region) (n i : ℕ) → i < n → p (f i) ≡ true → any p (table f n) ≡ true
table_some p f zero i l e = absurd (not-suc-le-zero l)
table_some p f (suc n) zero l e = rw e
table_some p f (suc n) (suc i) l e = any_there p (f zero) (table (λ i. f (suc i)) n) (table_some p (λ i. f (suc i)) n i (le_of_suc-le-suc l) e)

-- what is in a table stands at one of its places
pub table_in : (r : Region) (f : ℕ → Region) (n : ℕ) → In r (table f n) → (i : ℕ) × (i < n) × (r ≡ f i)
table_in r f zero e = never (sym e)
table_in r f (suc n) e = any_cases (same r) (f zero) (table (λ i. f (suc i)) n) e (λ s. (zero, suc-le-suc zero-le, same_is r (f zero) s)) (λ g. let x = table_in r (λ i. f (suc i)) n g in (suc x.0, suc-le-suc x.1, x.2))

-- the first place that passes has the first region that does
pub table_find : (p : Region → Bool) (f : ℕ → Region) (n i : ℕ) → i < n → p (f i) ≡ true → ((j : ℕ) → j < i → p (f j) ≡ false) → find p (table f n) ≡ f i
table_find p f zero i l e o = absurd (not-suc-le-zero l)
table_find p f (suc n) zero l e o = rw e
table_find p f (suc n) (suc i) l e o = rw (o zero (suc-le-suc zero-le)) (table_find p (λ i. f (suc i)) n i (le_of_suc-le-suc l) e (λ j h. o (suc j) (suc-le-suc h)))

-- a table with r put in at p
pub table_enter : (r : Region) (f g : ℕ → Region) (n p : ℕ) → p ≤ n → ((j : ℕ) → j < p → (f j).guest ≤ r.guest) → (p < n → r.guest < (f p).guest) → ((j : ℕ) → j < p → g j ≡ f j) → g p ≡ r → ((j : ℕ) → p ≤ j → j < n → g (suc j) ≡ f j) → table g (suc n) ≡ enter r (table f n)
table_enter r f g zero zero l b a lo e hi = λ k. e k ∷ []
table_enter r f g zero (suc p) l b a lo e hi = absurd (not-suc-le-zero l)
table_enter r f g (suc n) zero l b a lo e hi =
    rw (lt-ltb r.guest (f zero).guest (a (suc-le-suc zero-le)))
    (λ k. e k ∷ table_same (λ i. g (suc i)) f (suc n) (λ i h. hi i zero-le h) k)
table_enter r f g (suc n) (suc p) l b a lo e hi =
    rw (le-ltb r.guest (f zero).guest (b zero (suc-le-suc zero-le)))
    (λ k. lo zero (suc-le-suc zero-le) k ∷ table_enter r (λ i. f (suc i)) (λ i. g (suc i)) n p (le_of_suc-le-suc l) (λ j h. b (suc j) (suc-le-suc h)) (λ h. a (suc-le-suc h)) (λ j h. lo (suc j) (suc-le-suc h)) e (λ j h h'. hi (suc j) (suc-le-suc h) (suc-le-suc h')) k)

-- a table without its place p
pub table_without : (t : Region → Bool) (f g : ℕ → Region) (n p : ℕ) → p ≤ n → ((j : ℕ) → j < p → t (f j) ≡ false) → t (f p) ≡ true → ((j : ℕ) → j < p → g j ≡ f j) → ((j : ℕ) → p ≤ j → j < n → g j ≡ f (suc j)) → table g n ≡ without t (table f (suc n))
table_without t f g n zero l b e lo hi = rw e (table_same g (λ i. f (suc i)) n (λ i h. hi i zero-le h))
table_without t f g zero (suc p) l b e lo hi = absurd (not-suc-le-zero l)
table_without t f g (suc n) (suc p) l b e lo hi =
    rw (b zero (suc-le-suc zero-le))
    (λ k. lo zero (suc-le-suc zero-le) k ∷ table_without t (λ i. f (suc i)) (λ i. g (suc i)) n p (le_of_suc-le-suc l) (λ j h. b (suc j) (suc-le-suc h)) e (λ j h. lo (suc j) (suc-le-suc h)) (λ j h h'. hi (suc j) (suc-le-suc h) (suc-le-suc h')) k)
