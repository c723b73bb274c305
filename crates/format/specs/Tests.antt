-- Tests in their order: the first that fails gives its refusal.
use Rattle.std.specs.Prelude.{Bool, true, false, List, [], ◌∷◌}
use Rattle.format.specs.declared.Refusal.{Refusal}

-- a test that has to hold, and the refusal where it does not
pub record Test : Type 0 where
  pub holds : Bool
  pub else : Refusal

-- what comes where all hold, and what a refusal makes where one does not
unfoldable pub verdict : {A : Type 0} → (Refusal → A) → A → List Test → A
verdict refused fine [] = fine
verdict refused fine (t ∷ ts) = elim t.holds [ true ↦ verdict refused fine ts | false ↦ refused t.else ]
