-- Tests in their order: what is no refusal comes where all hold, and what a refusal is follows from the tests' own. Assumes nothing.
use mathlib.Core.Path.{◌≡◌, refl}
use mathlib.Core.Bool.{Bool, true, false}
use mathlib.Core.List.{List, [], ◌∷◌}
use mathlib.Core.Logic.{◌⊎◌, inl, inr}
use Rattle.format.specs.declared.Refusal.{Refusal}
use Rattle.format.specs.Tests.{Test, verdict}

unfoldable pub AllHold : List Test → Type 0
AllHold [] = Unit {0}
AllHold (t ∷ ts) = (t.holds ≡ true) × AllHold ts

-- what is no refusal is what comes where all hold
pub all_hold : {A : Type 0} (refusal : Refusal → A) (fine a : A) (ts : List Test) → ((r : Refusal) → refusal r ≡ a → ⊥) → verdict refusal fine ts ≡ a
    → (fine ≡ a) × AllHold ts
unfolding verdict AllHold
all_hold refusal fine a [] never e = (e, tt)
all_hold {A} refusal fine a (t ∷ ts) never e = go t.holds refl e (all_hold refusal fine a ts never)
  where
    go : (b : Bool) → t.holds ≡ b → elim b [ true ↦ verdict refusal fine ts | false ↦ refusal t.else ] ≡ a
        → (verdict refusal fine ts ≡ a → (fine ≡ a) × AllHold ts) → (fine ≡ a) × ((t.holds ≡ true) × AllHold ts)
    go true holds e rest = let r = rest e in (r.0, (holds, r.1))
    go false fails e rest = absurd (never t.else e)

pub holds_all : {A : Type 0} (refusal : Refusal → A) (fine : A) (ts : List Test) → AllHold ts → verdict refusal fine ts ≡ fine
unfolding verdict AllHold
holds_all refusal fine [] all = refl
holds_all refusal fine (t ∷ ts) all = rw all.0 (holds_all refusal fine ts all.1)

-- what holds of the refusal of each test
unfoldable pub EachElse : (Refusal → Type 0) → List Test → Type 0
EachElse P [] = Unit {0}
EachElse P (t ∷ ts) = P t.else × EachElse P ts

-- a verdict is what comes where all hold, or what follows from the refusal of one of them
pub judged_why : {A B : Type 0} (refusal : Refusal → A) (fine a : A) (ts : List Test) → EachElse (λ r. refusal r ≡ a → B) ts → verdict refusal fine ts ≡ a
    → ((fine ≡ a) × AllHold ts) ⊎ B
unfolding verdict AllHold EachElse
judged_why refusal fine a [] each e = inl (e, tt)
judged_why {A} {B} refusal fine a (t ∷ ts) each e = go t.holds refl e (judged_why refusal fine a ts each.1)
  where
    more : t.holds ≡ true → ((fine ≡ a) × AllHold ts) ⊎ B → ((fine ≡ a) × ((t.holds ≡ true) × AllHold ts)) ⊎ B
    more holds (inl all) = inl (all.0, (holds, all.1))
    more holds (inr b) = inr b

    go : (b : Bool) → t.holds ≡ b → elim b [ true ↦ verdict refusal fine ts | false ↦ refusal t.else ] ≡ a
        → (verdict refusal fine ts ≡ a → ((fine ≡ a) × AllHold ts) ⊎ B) → ((fine ≡ a) × ((t.holds ≡ true) × AllHold ts)) ⊎ B
    go true holds e rest = more holds (rest e)
    go false fails e rest = inr (each.0 e)
