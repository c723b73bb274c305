-- Document 01, "How far the promises go": "the promise of each public function determines the result and the final content of what was lent."
use Rattle.std.specs.Prelude.{◌≡◌, List, ℕ}
use contract.Lifetimes.{Lfts}
use Rattle.std.specs.Borrow.{Bor}
use denote.Triple.Clauses.{Lasts, at_exit}
use borrow.Fn.Kinds.{ParamKind, ResultKind, Out, Dens, res_t, ended_of}

-- Of a function's parameters and result, as the check reads them off its signature: `Lasts` is what each lent buffer holds at the end.
module _ {n : ℕ} (ps : List (ParamKind n)) (r : ResultKind n) where
  abbrev pub Result : Lfts n → Type 0
  Result κs = (res_t r κs).Denot

  abbrev pub Content : (κs : Lfts n) → Dens κs ps → Type 0
  Content κs args = Lasts (ended_of n ps r) κs args

  -- an outcome that a promise allows
  abbrev pub Allows : Out n ps r → (κs : Lfts n) (args : Dens κs ps) → Result κs → Content κs args → Type 0
  Allows P κs args x v = P κs args x (at_exit (ended_of n ps r) κs args v)

  -- "any two outcomes it allows are equal", where `Same` says which results are the same; for all arguments, also those that the promise `P` does not admit
  unfoldable pub DeterminedBy : ((κs : Lfts n) → Result κs → Result κs → Type 0) → Out n ps r → Type 0
  DeterminedBy Same P =
      (κs : Lfts n) (args : Dens κs ps) (x y : Result κs) (v w : Content κs args) →
      Allows P κs args x v →
      Allows P κs args y w →
      Same κs x y × (v ≡ w)

  -- equal results
  unfoldable pub Determined : Out n ps r → Type 0
  Determined P = DeterminedBy (λ κs x y. x ≡ y) P

-- A part of a byte string that is handed out: its bytes, and where it lies. (Nothing else of it is the machine's.)
unfoldable pub SamePart : {A : Type 0} → Bor A → Bor A → Type 0
SamePart x y = (x.now ≡ y.now) × (x.ref_ptr ≡ y.ref_ptr)
