-- Bytes put behind those that stand first in a list. Assumes nothing.
use Rattle.std.proofs.Common.{◌≡◌, refl, ◌<◌, ap, ◌∙◌, List, [], ◌∷◌, ◌++◌, ℕ, ◌+◌, append_assoc, arith, length, length-append, get_or, drop}
use mathlib.Core.List.{append-nil}
use lib.ListN.{set, drop_of_length-le}
use Rattle.std.proofs.lemmas.List.{drop_more}
use lib.Seq.{set_at, take_at, drop_at, drop-drop}
use borrow.Rule.Slice.PartMut.{put_mid, post_of}
use Rattle.format.specs.Reading.{over}

pub over_more : (a b : ℕ) (x y l : List ℕ) → length x ≡ a → length y ≡ b → put_mid a b (over x l) y ≡ over (x ++ y) l
unfolding over
over_more a b x y l ex ey =
    let rest = drop (length x) l in
    rw (take_at x rest a ex, drop_at x rest a ex, length-append x y, ← ey, drop-drop (length y) (length x) l, append_assoc x y (drop (length x + length y) l))

-- one more
over_set : (a : ℕ) (x l : List ℕ) (y : ℕ) → length x ≡ a → a < length l → set (over x l) a y ≡ over (x ++ (y ∷ [])) l
unfolding over
over_set a x l y e inside =
    let next : drop (length x) l ≡ get_or l a 0 ∷ drop (a + 1) l = rw e (drop_more l a 0 inside) in
    let long : length (x ++ (y ∷ [])) ≡ a + 1 = rw (length-append x (y ∷ []), e) refl in
    rw (next, set_at x (get_or l a 0) (drop (a + 1) l) y a e, long, append_assoc x (y ∷ []) (drop (a + 1) l)) refl

-- as many as there were
pub over_all : (x l : List ℕ) → length x ≡ length l → over x l ≡ x
unfolding over
over_all x l e = ap (λ (m : List ℕ). x ++ m) (drop_of_length-le l {i = length x} (omega arith)) ∙ append-nil x

-- what bytes become where some stand first in them
pub record Laid (a : ℕ) (x l m : List ℕ) : Type 0 where
  pub long : length x ≡ a
  pub there : m ≡ over x l

pub laid_more : {a b : ℕ} {x l m : List ℕ} (y : List ℕ) → Laid a x l m → length y ≡ b → Laid (a + b) (x ++ y) l (put_mid a b m y)
laid_more {a} {b} {x} {l} y laid few =
    record { long = rw (length-append x y, laid.long, few) refl; there = rw laid.there (over_more a b x y l laid.long few) }

pub laid_none : (l : List ℕ) → Laid 0 [] l l
unfolding over
laid_none l = record { long = refl; there = refl }

pub laid_first : {a : ℕ} (x l : List ℕ) → length x ≡ a → Laid a x l (x ++ post_of 0 a l)
unfolding over
laid_first x l long = record { long = long; there = rw long }

pub laid_set : {a : ℕ} {x l m : List ℕ} (y : ℕ) → Laid a x l m → a < length l → Laid (a + 1) (x ++ (y ∷ [])) l (set m a y)
laid_set {a} {x} {l} y laid inside =
    record { long = rw (length-append x (y ∷ []), laid.long) refl; there = rw laid.there (over_set a x l y laid.long inside) }

pub laid_all : {a : ℕ} {x l m : List ℕ} → Laid a x l m → length l ≡ a → m ≡ x
laid_all {a} {x} {l} laid all = laid.there ∙ over_all x l (omega (arith, laid.long))
