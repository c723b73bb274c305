-- How a reading ends; and a stop leaves the row buffer (what it leaves of the holding: proofs/Refusals.antt). Assumes nothing.
use mathlib.Core.Path.{◌≡◌, refl, sym, ap, ◌∙◌}
use mathlib.Core.Bool.{Bool, true, false, cond, false≢true}
use mathlib.Core.List.{List, [], ◌∷◌}
use Prim.Native.Nat.{ℕ, ◌+◌}
use native.Mathlib.Omega.{arith}
use lib.Dec.{leb}
use lib.IntN.{ℤ}
use lib.ListN.{length}
use Rattle.format.specs.declared.Refusal.{Refusal}
use Rattle.format.specs.declared.Refusal.TheVariants.{Room, Place, Value}
use Rattle.format.specs.Answers as Answers
use Rattle.format.specs.Assigned.{blank}
use Rattle.format.specs.Good.{good, is_holding}
use Rattle.format.specs.Masks.{Held, Lent, stray, lent, held_in}
use Rattle.format.specs.Programs.{Ended, well, badly, run}
use Rattle.format.specs.Reading.{row_room, placed, Outcome, accepted, idle, refused, dropped, settled, ended_at, read_from, bits_from, lent_tests, reading_by, answer_of, rows_after}
use Rattle.format.specs.Steady.{steady}
use Rattle.format.specs.Table.{Kind, Message, message_by}
use Rattle.format.specs.Tests.{Test, verdict}

-- ---- tests in their order

-- what holds where all of them hold, and of each refusal
pub judged : {A : Type 0} (P : A → Type 0) (refusal : Refusal → A) (fine : A) (ts : List Test) → ((r : Refusal) → P (refusal r)) → P fine → P (verdict refusal fine ts)
unfolding verdict
judged P refusal fine [] stop good = good
judged P refusal fine (t ∷ ts) stop good = go t.holds (judged P refusal fine ts stop good)
  where
    go : (b : Bool) → P (verdict refusal fine ts) → P (elim b [ true ↦ verdict refusal fine ts | false ↦ refusal t.else ])
    go true rest = rest
    go false rest = stop t.else

-- ---- how a reading ends

module _ (P : Outcome → Type 0) where
  -- one of two outcomes
  branch : (test : Bool) (a b : Outcome) → P a → P b → P (cond test a b)
  branch true a b pa pb = pa
  branch false a b pa pb = pb

  -- a message that is accepted, or drops what is held
  pub settles : (held : Held) (m : Message) (next : ℕ) → P (accepted m next) → P dropped → P (settled held m next)
  settles held m next = branch (steady held m.after) (accepted m next) dropped

  -- a program's end
  ended : (held : Held) → ((r : Refusal) (missing : ℕ) → P (refused r missing (lent held))) → P dropped → (place : ℕ) (e : Ended Message)
      → ((m : Message) (taken : ℕ) → e ≡ well m taken → P (accepted m (place + taken))) → P (ended_at held place e)
  unfolding ended_at
  ended held stop drop place (well m taken) said = settles held m (place + taken) (said m taken refl) drop
  ended held stop drop place (badly r missing) said = stop r missing

  module _ (t : ℕ → Kind) (bytes : List ℕ) (end start : ℕ) (rows : List ℤ) where
    -- what is no holding is refused
    pub stray_refused : ((r : Refusal) → P (refused r 0 stray)) → P (reading_by t stray bytes end start rows)
    unfolding reading_by is_holding lent_tests verdict
    stray_refused stop =
        judged P (λ r. refused r 0 stray) (refused Value 0 stray)
        (record { holds = leb row_room (length rows); else = Room } ∷ record { holds = placed bytes end start; else = Place } ∷ [])
        stop (stop Value)

    -- what holds of stops that keep what is held, of a mask that changed, and of whatever message is read, holds of reading the bits from a place on
    pub read_ends :
        (held : Held) → ((r : Refusal) (missing : ℕ) → P (refused r missing (lent held))) → P dropped → P (idle (lent held))
        → ((m : Message) (taken : ℕ) → run (message_by t held) (bits_from bytes end start) ≡ well m taken → P (accepted m (start + taken)))
        → P (read_from t held start (bits_from bytes end start))
    unfolding read_from
    read_ends held stop drop none said =
        let l : List Bool = bits_from bytes end start in
        branch (blank l) _ _ none (ended held stop drop start (run (message_by t held) l) said)

    -- and of a reading, where what is lent is kept
    pub reading_ends :
        (holding : Lent) → ((r : Refusal) (missing : ℕ) → P (refused r missing holding)) → P dropped → P (idle holding)
        → ((m : Message) (taken : ℕ) → run (message_by t (held_in holding)) (bits_from bytes end start) ≡ well m taken → P (accepted m (start + taken)))
        → P (reading_by t holding bytes end start rows)
    unfolding reading_by held_in is_holding
    reading_ends stray stop drop none said = stray_refused (λ r. stop r 0)
    reading_ends (lent held) stop drop none said =
        judged P (λ r. refused r 0 (lent held)) _ (lent_tests (good held) bytes end start (length rows)) (λ r. stop r 0) (read_ends held stop drop none said)

-- ---- stops

-- idle or a refusal
abbrev pub Stopped : Outcome → Type 0
Stopped (accepted m next) = ⊥
Stopped (idle holding) = Unit {0}
Stopped (refused r missing holding) = Unit {0}

-- what is said with a number is one
pub said_stopped : (place : ℕ) (o : Outcome) {number at missing : ℕ} → Answers.said_at place (answer_of o) ≡ Answers.stop number at missing → Stopped o
unfolding Answers.said_at answer_of
said_stopped place (accepted m next) e = absurd (let z : ◌≡◌ {A = ℕ} 0 1 = cc in omega arith)
said_stopped place (idle holding) e = tt
said_stopped place (refused r by holding) e = tt

pub stop_leaves : (o : Outcome) (rows : List ℤ) → Stopped o → rows_after o rows ≡ rows
unfolding rows_after
stop_leaves (accepted m next) rows stopped = absurd stopped
stop_leaves (idle holding) rows stopped = refl
stop_leaves (refused r missing holding) rows stopped = refl

-- ---- what was accepted

-- a program's end that is a message: what is held may become what it leaves
pub record Read (held : Held) (place : ℕ) (e : Ended Message) (m : Message) (next : ℕ) : Type 0 where
  pub taken : ℕ
  pub ran : e ≡ well m taken
  pub sum : place + taken ≡ next
  pub stays : steady held m.after ≡ true

pub read_so : (held : Held) (place : ℕ) (e : Ended Message) (m : Message) (next : ℕ) → ended_at held place e ≡ accepted m next → Read held place e m next
unfolding ended_at
read_so held place (badly r missing) m next e = absurd (false≢true cc)
read_so held place (well k taken) m next e = go (steady held k.after) refl e
  where
    go : (b : Bool) → steady held k.after ≡ b → cond b (accepted k (place + taken)) dropped ≡ accepted m next
        → Read held place (well k taken) m next
    go false changed e = absurd (false≢true cc)
    go true same e =
        let is : k ≡ m = cc in
        let sum : place + taken ≡ next = cc in
        record { taken = taken; ran = ap (λ (x : Message). well x taken) is; sum = sum; stays = ap (λ (x : Message). steady held x.after) (sym is) ∙ same }
