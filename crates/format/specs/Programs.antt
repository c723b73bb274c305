-- A message is a program of fields over a list of bits: document 01, "Reader's order": 3 for a field, then at once what the field can be refused for.
use Rattle.std.specs.Prelude.{Bool, true, false, List, ℕ, zero, suc, ◌+◌, ◌-◌, length, take, drop}
use Rattle.bits.specs.BitLists.{number}
use Rattle.format.specs.declared.Refusal.{Refusal}
use Rattle.format.specs.declared.Refusal.TheVariants.{Short}

-- `done a` ends well; `refuse r` does not; `field w next` asks for w bits and goes on with them
pub data Program (A : Type 0) : Type 0 where
  done : A → Program A
  refuse : Refusal → Program A
  field : ℕ → (List Bool → Program A) → Program A

infixl 20 ◌>>=◌
unfoldable pub ◌>>=◌ : {A B : Type 0} → Program A → (A → Program B) → Program B
done a >>= next = next a
refuse r >>= next = refuse r
field w more >>= next = field w (λ b. more b >>= next)

-- w bits as they are, and the number in them
unfoldable pub taking : ℕ → Program (List Bool)
taking w = field w done

unfoldable pub numbered : ℕ → Program ℕ
numbered w = field w (λ b. done (number b))

-- goes on where a test holds, else refuses
unfoldable pub require : Bool → Refusal → Program (Unit {0})
require true r = done tt
require false r = refuse r

infixl 20 ◌>>◌
unfoldable pub ◌>>◌ : {A B : Type 0} → Program A → Program B → Program B
p >> next = p >>= (λ _. next)

-- How a program ends: well, with the number of bits it took; or badly, with a refusal and how many bits were missing: none but where it is short.
pub data Ended (A : Type 0) : Type 0 where
  well : A → ℕ → Ended A
  badly : Refusal → ℕ → Ended A

unfoldable pub later : {A : Type 0} → ℕ → Ended A → Ended A
later w (well a taken) = well a (w + taken)
later w (badly r missing) = badly r missing

-- short, if bits are missing
unfoldable pub unless_short : {A : Type 0} → ℕ → Ended A → Ended A
unless_short zero e = e
unless_short (suc m) e = badly Short (suc m)

unfoldable pub run : {A : Type 0} → Program A → List Bool → Ended A
run (done a) l = well a 0
run (refuse r) l = badly r 0
run (field w next) l = unless_short (w - length l) (later w (run (next (take w l)) (drop w l)))
