-- A law of the table of sub types: proved of its entries one after the other, it holds at every number, and so of a message by the table.
-- And a law of the kinds that adopt no mask.
-- Assumes nothing.
use mathlib.Core.Path.{◌≡◌, refl}
use mathlib.Core.Bool.{Bool, true, false, cond}
use mathlib.Core.List.{List, [], ◌∷◌, ◌++◌, append-nil, append_assoc}
use Prim.Native.Nat.{ℕ, zero, suc, ◌+◌, ◌^◌, ◌<◌}
use native.Mathlib.Nat.{add-zero, zero-add}
use native.Mathlib.Omega.{arith}
use borrow.Author.Tests.{eqb-true}
use lib.Dec.{eqb}
use lib.ListN.{length, get_or}
use Rattle.bits.specs.BitLists.{spell}
use Rattle.format.specs.declared.Refusal.TheVariants.{NoMask, OtherIssue}
use Rattle.format.specs.Masks.{Mask, Held, nothing, mask, sky_of}
use Rattle.format.specs.Messages.{Content, Heading, Common, common, named}
use Rattle.format.specs.Programs.{Program, done}
use Rattle.format.specs.Rows.{body_width, rows_of}
use Rattle.format.specs.Table.{Message, Kind, MaskedKind, other, kinds, table, gate, under_mask, keeping, by_kind, opening, message_by}
use Rattle.format.proofs.Bodies.{bodied_gives}
use Rattle.format.proofs.Steps.{Gives, gives_done, gives_refuse, gives_require, gives_numbered, gives_bind, gives_so, gives_itself}

-- rows of which something holds at the numbers from k on
pub data Each {A : Type 0} (P : ℕ → A → Type 0) : ℕ → List A → Type 0 where
  end : {k : ℕ} → Each P k []
  then : {k : ℕ} {x : A} {xs : List A} → P k x → Each P (suc k) xs → Each P k (x ∷ xs)

pub each_at : {A : Type 0} {P : ℕ → A → Type 0} {k : ℕ} {xs : List A} (d : A) → Each P k xs → ((n : ℕ) → P n d) → (n : ℕ) → P (k + n) (get_or xs n d)
each_at {A} {P} {k} d end rest n = rest (k + n)
each_at d (then law laws) rest zero = rw add-zero law
each_at {A} {P} {k} d (then law laws) rest (suc n) =
    let next : suc k + n ≡ k + suc n = omega arith in
    rw next at (each_at d laws rest n)

pub in_table : {P : ℕ → Kind → Type 0} → Each P 0 kinds → ((n : ℕ) → P n other) → (n : ℕ) → P n (table n)
unfolding table
in_table laws rest n = rw zero-add at (each_at other laws rest n)

-- what the last arm of a match knows: the number is none of these, the last arm's first
unfoldable pub NoneOf : List ℕ → ℕ → Type 0
NoneOf [] n = Unit {0}
NoneOf (k ∷ ks) n = NoneOf ks n × (n ≡ k → ⊥)

pub none_of : (ks : List ℕ) (n : ℕ) → NoneOf ks n → named n ks ≡ true → ⊥
unfolding NoneOf named
none_of [] n none e = let z : ◌≡◌ {A = ℕ} 0 1 = cc in omega arith
none_of (k ∷ ks) n none e = go (eqb n k) refl e (none_of ks n none.0)
  where
    go : (b : Bool) → eqb n k ≡ b → cond b true (named n ks) ≡ true → (named n ks ≡ true → ⊥) → ⊥
    go true same e behind = none.1 (eqb-true n k same)
    go false not e behind = behind e

-- the number and the sub type
opening_gives : Gives opening (λ n b. (n < 2 ^ 4) × (b ≡ spell 12 4073 ++ spell 4 n))
unfolding opening
opening_gives =
    gives_numbered _ _ λ number _.
    gives_require _ _ _ λ ours.
    gives_numbered _ _ λ n small.
    gives_done (small, rw (eqb-true number 4073 ours, append-nil))

-- what a kind gives behind them, a message gives
pub gives_message : {P : Message → List Bool → Type 0} (t : ℕ → Kind) (held : Held)
    → ((n : ℕ) → n < 2 ^ 4 → Gives (by_kind (t n) held) (λ m b. P m (spell 12 4073 ++ (spell 4 n ++ b)))) → Gives (message_by t held) P
unfolding message_by
gives_message t held h =
    gives_bind opening_gives λ n b it.
    gives_so (h n it.0) λ m rest said.
    rw (it.1, append_assoc) said

-- ---- kinds that adopt no mask: whatever they say, the holding is as it was

pub keeping_gives : {P : Heading → List Bool → Type 0} {Q : Message → List Bool → Type 0} {p : Program Heading} (held : Held) → Gives p P
    → ((d : Heading) (b l : List Bool) → P d b → length l ≡ body_width d.lines
    → Q (record { content = record { head = d.head; rows = rows_of d.lines l }; after = held }) (b ++ l))
    → Gives (keeping held p) Q
unfolding keeping
keeping_gives {P} {Q} held g h =
    gives_bind (bodied_gives {Q = λ c b. Q (record { content = c; after = held }) b} g h) λ c b it. gives_done (rw append-nil it)

pub keeps : {P : Message → List Bool → Type 0} (held : Held) (p : Program Heading) → ((c : Content) (b : List Bool) → P (record { content = c; after = held }) b)
    → Gives (keeping held p) P
keeps held p h = keeping_gives held (gives_itself p) λ d b l _ whole. h _ _

-- under a mask: the common head, then what the kind gives under the mask of its issue; nothing where none is held
module _ {P : Heading → List Bool → Type 0} (k : MaskedKind) where
  pub under_nothing : Gives (under_mask k nothing) P
  unfolding under_mask gate
  under_nothing = gives_bind (gives_itself (common 12)) λ h a _. gives_bind {Q = λ c b. ⊥} (gives_refuse NoMask) λ c b none. absurd none

  pub under_gives : (m : Mask) {Q : Common → List Bool → Type 0} → Gives (common 12) Q
      → ((h : Common) (a : List Bool) → Q h a → eqb h.iod m.iod ≡ true → Gives (k.program (sky_of m) h) (λ d b. P d (a ++ b)))
      → Gives (under_mask k (mask m)) P
  unfolding under_mask gate
  under_gives m g law =
      gives_bind g λ h a it.
      gives_bind {Q = λ n b. (eqb h.iod m.iod ≡ true) × (n ≡ m) × (b ≡ [])}
      (gives_require (eqb h.iod m.iod) OtherIssue (done m) λ issue. gives_done (issue, refl, refl)) λ n b same.
      rw (same.1, same.2) (law h a it same.0)
