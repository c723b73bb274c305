-- The bits of one message read by two receivers, each by a table of its own, of which the second's may refuse more: the second says the same, or is refused
-- for its mask, or with what its table refuses more. Whether a mask may be adopted is not asked here: see TwoReadings. Assumes nothing.
use mathlib.Core.Path.{◌≡◌, refl, sym, ◌∙◌}
use mathlib.Core.Bool.{Bool, true, false, cond, false≢true}
use mathlib.Core.List.{List}
use mathlib.Core.Logic.{◌⊎◌, inl, inr, ⊎_elim}
use Prim.Native.Nat.{ℕ, ◌-◌}
use native.Mathlib.Decide.{ℕ_discrete}
use lib.Dec.{eqb}
use lib.ListN.{length, take, drop}
use borrow.Author.Tests.{ne_eqb, eq-eqb}
use Rattle.bits.specs.BitLists.{number}
use Rattle.format.specs.declared.Refusal.{Refusal}
use Rattle.format.specs.declared.Refusal.TheVariants.{Number, SubType}
use Rattle.format.specs.Good.{good}
use Rattle.format.specs.Masks.{Mask, Held, nothing, mask, sky_of}
use Rattle.format.specs.Messages.{Content, bodied, Common, common, Heading}
use Rattle.format.specs.Programs.{Program, done, ◌>>=◌, ◌>>◌, require, Ended, badly, run, numbered}
use Rattle.format.specs.Reading.{sub_type_in}
use Rattle.format.specs.Table.{FreeKind, MaskedKind, AdoptedKind, Kind, other, free, masked, adopts, Message, gate, under_mask, keeping, by_kind, message_by}
use Rattle.format.proofs.Openings.{opened, run_opened}
use Rattle.promises.specs.LateJoiners.{OfTheMask, no_mask, other_issue}
use Rattle.promises.proofs.Follows.{Beside, first_refused, beside_later, beside_short, Follows, follows_done, first_refuses, second_refuses, follows_so, follows_then, follows_itself}

-- ---- a table that refuses more

-- of the kinds of a sub type the second's reads what the first's reads to the same, or refuses with one of these; or it is none of ours
pub data Weaker (More : Refusal → Type 0) : Kind → Kind → Type 0 where
  never : {k : Kind} → Weaker More other k
  dropped : {k : Kind} → More SubType → Weaker More k other
  weaker_free : {k k' : FreeKind} → Follows ◌≡◌ More (bodied k.program) (bodied k'.program) → Weaker More (free k) (free k')
  weaker_masked : {k k' : MaskedKind}
      → ((m : Mask) (h : Common) → Follows ◌≡◌ More (bodied (k.program (sky_of m) h)) (bodied (k'.program (sky_of m) h))) → Weaker More (masked k) (masked k')
  weaker_adopts : {k k' : AdoptedKind} → Follows ◌≡◌ More k.program k'.program → Weaker More (adopts k) (adopts k')

-- a kind refuses no more than itself
pub weaker_refl : (More : Refusal → Type 0) (k : Kind) → Weaker More k k
weaker_refl More other = never
weaker_refl More (free k) = weaker_free (follows_itself _)
weaker_refl More (masked k) = weaker_masked λ m h. follows_itself _
weaker_refl More (adopts k) = weaker_adopts (follows_itself _)

-- ---- what the two hold

-- what the second holds is good if what the first holds is, and is the same if it is a mask of the same issue
pub record Near (f s : Held) : Type 0 where
  pub sound : good f ≡ true → good s ≡ true
  pub equal : (m n : Mask) → f ≡ mask m → s ≡ mask n → m.iod ≡ n.iod → m ≡ n

pub level : (held : Held) → Near held held
level held = record { sound = λ fine. fine; equal = λ m n first second issue. cc }

-- a kind that makes a mask to be adopted
abbrev pub Adopts : Kind → Type 0
Adopts k = elim k [ other ↦ ⊥ | free x ↦ ⊥ | masked x ↦ ⊥ | adopts x ↦ Unit {0} ]

-- where no bits are refused for the mask: both hold the same, or the message is a mask
abbrev pub Sure : Held → Held → Kind → Type 0
Sure f s k = (f ≡ s) ⊎ Adopts k

-- ---- what the second says

-- a message of the same content, after which it is as near; both hold the same where the mask could refuse nothing
pub record Alike (f s : Held) (k : Kind) (m n : Message) : Type 0 where
  pub content : n.content ≡ m.content
  pub near : Near m.after n.after
  pub sure : Sure f s k → m.after ≡ n.after

-- a refusal for its mask, where that can refuse, or one of those that its table has more
abbrev pub Stops : (Refusal → Type 0) → Held → Held → Kind → Refusal → Type 0
Stops More f s k r = (OfTheMask r × (Sure f s k → ⊥)) ⊎ More r

-- ---- by kinds

-- the body goes past the common head
under_bodied : (k : MaskedKind) (held : Held) → bodied (under_mask k held) ≡ common 12 >>= (λ h. bodied (gate held h.iod >>= (λ m. k.program (sky_of m) h)))
unfolding bodied under_mask common numbered ◌>>=◌
under_bodied k held = refl

module _ {More : Refusal → Type 0} where
  -- the gate: "no mask" where the second holds nothing, "other issue" where it holds a mask of another issue
  gate_follows : (f s : Held) → Near f s → (k : MaskedKind) (iod : ℕ) (p q : Mask → Program Heading) → ((m : Mask) → Follows ◌≡◌ More (bodied (p m)) (bodied (q m)))
      → Follows ◌≡◌ (Stops More f s (masked k)) (bodied (gate f iod >>= p)) (bodied (gate s iod >>= q))
  unfolding gate require ◌>>◌ ◌>>=◌ bodied
  gate_follows nothing s near k iod p q weak = first_refuses
  gate_follows (mask m) nothing near k iod p q weak =
      second_refuses (inl (no_mask, ⊎_elim (λ e. false≢true cc) (λ made. made)))
  gate_follows (mask m) (mask n) near k iod p q weak = go (ℕ_discrete iod m.iod) (ℕ_discrete iod n.iod)
    where
      go : Dec (iod ≡ m.iod) → Dec (iod ≡ n.iod)
          → Follows ◌≡◌ (Stops More (mask m) (mask n) (masked k)) (bodied (gate (mask m) iod >>= p)) (bodied (gate (mask n) iod >>= q))
      go (no differs) too = rw (ne_eqb iod m.iod differs) first_refuses
      go (yes ours) (no differs) = rw (ne_eqb iod n.iod differs) (second_refuses (inl (other_issue, ⊎_elim (λ e. differs (cc)) (λ made. made))))
      go (yes ours) (yes too) = rw (near.equal m n refl refl (sym ours ∙ too), eq-eqb iod n.iod too) (follows_so (λ r. inr) (weak n))

  module _ {f s : Held} (near : Near f s) where
    -- a message that leaves the holding as it is
    content_follows : {k : Kind} {p q : Program Content} → (Adopts k → ⊥) → Follows ◌≡◌ (Stops More f s k) p q
        → Follows (Alike f s k) (Stops More f s k) (p >>= (λ c. done (record { content = c; after = f }))) (q >>= (λ c. done (record { content = c; after = s })))
    content_follows keeps it =
        follows_then it λ c. follows_done (record { content = refl; near = near; sure = ⊎_elim (λ e. e) (λ made. absurd (keeps made)) })

    -- a kind by a weaker one
    kind_follows : {k k' : Kind} → Weaker More k k' → Follows (Alike f s k) (Stops More f s k) (by_kind k f) (by_kind k' s)
    unfolding by_kind keeping
    kind_follows never = first_refuses
    kind_follows (dropped named) = second_refuses (inr named)
    kind_follows (weaker_free weak) = content_follows (λ made. made) (follows_so (λ r. inr) weak)
    kind_follows (weaker_masked {k} {k'} weak) =
        content_follows (λ made. made)
        (rw (under_bodied k f, under_bodied k' s)
        (follows_then (follows_itself (common 12)) λ h. gate_follows f s near k h.iod _ _ (λ m. weak m h)))
    kind_follows (weaker_adopts weak) =
        follows_then (follows_so (λ r. inr) weak) λ d. follows_done (record { content = refl; near = level _; sure = λ _. refl })

-- ---- a message

-- behind the number and the sub type
opened_beside : {R : Message → Message → Type 0} {Named : Refusal → Type 0} (l : List Bool) {e g : Ended Message} → Beside R Named e g
    → Beside R Named (opened l e) (opened l g)
unfolding opened
opened_beside {R} {Named} l {e} {g} it =
    beside_short (12 - length l) (beside_later 12 (go (eqb (number (take 12 l)) 4073) (beside_short (4 - length (drop 12 l)) (beside_later 4 it))))
  where
    go : (ours : Bool) {x y : Ended Message} → Beside R Named x y → Beside R Named (cond ours x (badly Number 0)) (cond ours y (badly Number 0))
    go true both = both
    go false both = first_refused

-- what the first reads, the second reads to the same content, or refuses for its mask, or with more
pub message_beside : {More : Refusal → Type 0} (t u : ℕ → Kind) → ((n : ℕ) → Weaker More (t n) (u n)) → {f s : Held} → Near f s → (l : List Bool)
    → Beside (Alike f s (t (sub_type_in l))) (Stops More f s (t (sub_type_in l))) (run (message_by t f) l) (run (message_by u s) l)
message_beside t u weak {f} {s} near l =
    rw (run_opened t f l, run_opened u s l) (opened_beside l ((kind_follows near (weak (sub_type_in l))).follows (drop 4 (drop 12 l))))
