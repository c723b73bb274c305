-- Demand 3: late joiners show the truth or refuse by name. What is supposed of two receivers, and what then holds, in the demand's order; its last two
-- sentences as document 02, Ask 2 has changed them. Each by a table of sub types of its own; one edition is the case of one table.
use Rattle.std.specs.Prelude.{◌≡◌, Bool, true, cond, List, [], ◌∷◌, ◌++◌, ◌⊎◌, ℕ, ◌≤◌, ℤ, length}
use Rattle.format.specs.declared.Refusal.{Refusal}
use Rattle.format.specs.declared.Refusal.TheVariants.{NoMask, OtherIssue, Changed}
use Rattle.format.specs.Masks.{Mask, Held, mask, Lent, lent, held_in}
use Rattle.format.specs.Messages.{mask_type}
use Rattle.format.specs.Reading.{row_room, Outcome, accepted, idle, refused, bits_from, sub_type_in, lent_after}
use Rattle.format.specs.Table.{Kind}
use Rattle.format.specs.Walking.{HandedOut, Walk, walk_on}

-- "One receiver starts without a mask and reads a run of stretches. A second starts the same way and gets some of those stretches, whole and in order":
-- a stretch of the run, the row buffer that the first lends for it, whether the second gets it, and the row buffer that the second then lends
pub record Turn : Type 0 where
  pub bytes : List ℕ
  pub end : ℕ
  pub rows : List ℤ
  pub gets : Bool
  pub others : List ℤ

-- what a receiver makes of a stretch is the walk under what it holds
unfoldable pub received : (ℕ → Kind) → Held → List ℕ → ℕ → List ℤ → Walk
received t held bytes end rows = walk_on t (lent held) bytes end 0 rows

unfoldable pub first : (ℕ → Kind) → Held → Turn → Walk
first t held x = received t held x.bytes x.end x.rows

unfoldable pub second : (ℕ → Kind) → Held → Turn → Walk
second t held x = received t held x.bytes x.end x.others

-- what is held after a stop
unfoldable pub held_after : Outcome → Held
held_after o = held_in (lent_after o)

-- what they hold after a turn: a stretch that the second doesn't get leaves it as it was
unfoldable pub first_after : (ℕ → Kind) → Held → Turn → Held
first_after t held x = held_after (first t held x).stop

unfoldable pub second_after : (ℕ → Kind) → Held → Turn → Held
second_after t held x = cond x.gets (held_after (second t held x).stop) held

-- Something of every turn of a run, said of what the two hold when they open it.
unfoldable pub Throughout : (ℕ → Kind) → (ℕ → Kind) → (Held → Held → Turn → Type 0) → Held → Held → List Turn → Type 0
Throughout t u P f s [] = Unit {0}
Throughout t u P f s (x ∷ xs) = P f s x × Throughout t u P (first_after t f x) (second_after u s x) xs

-- ---- what is supposed

unfoldable pub IsIdle : Outcome → Type 0
IsIdle (accepted m next) = ⊥
IsIdle (idle holding) = Unit {0}
IsIdle (refused r missing holding) = ⊥

-- "none refused": the first reads every stretch to its end
unfoldable pub Unrefused : (ℕ → Kind) → Held → Held → Turn → Type 0
Unrefused t f s x = IsIdle (first t f x).stop

-- "with row room enough"
unfoldable pub RoomEnough : Held → Held → Turn → Type 0
RoomEnough f s x = x.gets ≡ true → row_room ≤ length x.others

-- "wherever it opens a stretch while both hold masks of one IOD SSR, the masks are equal"
unfoldable pub SameIssueSameMask : Held → Held → Turn → Type 0
SameIssueSameMask f s x = x.gets ≡ true → (m n : Mask) → f ≡ mask m → s ≡ mask n → m.iod ≡ n.iod → m ≡ n

-- ---- what then holds in each stretch that the second gets

-- "an opening part of the first receiver's messages, record for record", each at its place
unfoldable pub OpeningPart : List HandedOut → List HandedOut → Type 0
OpeningPart part all = (rest : List HandedOut) × (all ≡ part ++ rest)

-- "stopping at the end": idle, where the first stops
unfoldable pub AtTheEnd : Walk → Walk → Type 0
AtTheEnd a b = IsIdle b.stop × (b.place ≡ a.place)

-- "or with": a refusal of some
unfoldable pub StoppedWith : (Refusal → Type 0) → Outcome → Type 0
StoppedWith Named o = (r : Refusal) × (missing : ℕ) × (holding : Lent) × (o ≡ refused r missing holding) × Named r

-- "no mask" or "other issue"; by Ask 2 "the second receiver may then stop with 'changed mask' as well"
pub data OfTheMask : Refusal → Type 0 where
  no_mask : OfTheMask NoMask
  other_issue : OfTheMask OtherIssue
  changed_mask : OfTheMask Changed

-- "if the stretch opens with a mask message"
unfoldable pub OpensWithMask : Turn → Type 0
OpensWithMask x = sub_type_in (bits_from x.bytes x.end 0) ≡ mask_type

-- By Ask 2 "unless that message is so refused": a walk that stopped with "changed mask" at a place. At 0 that is its opening message.
unfoldable pub ChangedAt : ℕ → Walk → Type 0
ChangedAt place b = (b.place ≡ place) × StoppedWith (λ r. r ≡ Changed) b.stop

pub record Truth (f s : Held) (x : Turn) (a b : Walk) : Type 0 where
  -- "it hands out an opening part of the first receiver's messages, record for record"
  pub opening : OpeningPart b.handed a.handed
  -- "stopping at the end or with 'no mask' or 'other issue'", by Ask 2 with "changed mask" as well
  pub stopping : AtTheEnd a b ⊎ StoppedWith OfTheMask b.stop
  -- "It hands out all of them if the stretch opens with a mask message or both then hold the same"; by Ask 2 "a stretch that opens with a mask message is
  -- handed out whole unless that message is so refused". Where both hold the same, nothing was added: no mask that the first takes is then refused.
  pub all : (OpensWithMask x × ¬ ChangedAt 0 b) ⊎ (f ≡ s) → b.handed ≡ a.handed

unfoldable pub ShowsTheTruth : (ℕ → Kind) → Held → Held → Turn → Type 0
ShowsTheTruth t f s x = x.gets ≡ true → Truth f s x (first t f x) (second t s x)

-- The same where the second's table refuses more than the first's: it may stop with that, too. Where it is sure to hand out all of them is left open.
pub record TruthBut (More : Refusal → Type 0) (sure : Type 0) (a b : Walk) : Type 0 where
  pub opening : OpeningPart b.handed a.handed
  pub stopping : AtTheEnd a b ⊎ (StoppedWith OfTheMask b.stop ⊎ StoppedWith More b.stop)
  pub all : sure → (b.handed ≡ a.handed) ⊎ StoppedWith More b.stop

unfoldable pub ShowsTheTruthBut : (Refusal → Type 0) → (ℕ → Kind) → (ℕ → Kind) → Held → Held → Turn → Type 0
ShowsTheTruthBut More t u f s x =
    x.gets ≡ true → TruthBut More ((OpensWithMask x × ¬ ChangedAt 0 (second u s x)) ⊎ (f ≡ s)) (first t f x) (second u s x)
