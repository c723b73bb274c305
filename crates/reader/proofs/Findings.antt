-- What is found at a place of a stretch, all that is lent being good. Assumes nothing.
use Rattle.bits.proofs.Words.{◌≡◌, refl, sym, ap, subst, ◌∙◌, Bool, true, false, cond, List, ℕ, zero, suc, ◌+◌, ◌-◌, ◌≤◌, arith, eqb, length, ℤ}
use mathlib.Core.List.{flatten}
use denote.Enum.Declared.{tag_of}
use Rattle.bits.specs.Places.{field}
use Rattle.format.specs.declared.Answer.{Answer}
use Rattle.format.specs.declared.Answer.TheVariants as Answers
use Rattle.format.specs.declared.Refusal.{Refusal}
use Rattle.format.specs.Ends.{Within, end_from}
use Rattle.format.specs.Masks.{Held, lent}
use Rattle.format.specs.Messages as Messages
use Rattle.format.specs.Programs.{Program, Ended, well, badly, run}
use Rattle.format.specs.Reading.{Outcome, idle, refused, bits_from, lent_after, over, rows_after, answer_of}
use Rattle.format.specs.Table.{Message, opening}
use Rattle.format.proofs.Ends.{by_end, ended_at_lem}
use Rattle.format.proofs.Selections.{Distinct}
use Rattle.format.proofs.Stops.{settles}
use Rattle.heads.specs.declared.Opening.TheVariants.{SubType}
use Rattle.heads.specs.declared.Opening.TheVariants as Openings
use Rattle.heads.specs.Heads.{opening_by}
use Rattle.heads.specs.Headings.{Shows}
use Rattle.heads.specs.Sorting.{sky_held, heading_for, bodied_by, headed_at, mask_said, adopted_by}
use Rattle.heads.proofs.ByOpening.{type_taken, read_opened, read_unopened}
use Rattle.heads.proofs.Sorted.{kind_ended, adopted_ended}
use Rattle.holding.specs.declared.Holding.{Holding}
use Rattle.holding.specs.Held.{sky_in, view_of}
use Rattle.holding.specs.Pictures.{mask_of, sound}
use Rattle.holding.proofs.Sounds.{sounds, held_distinct}
use Rattle.reader.specs.declared.message.Found.TheVariants.{Answered}
use Rattle.reader.specs.Readings.{read_at, read_as, unopened_at, found_as, found_by, found_at, Begins}
use Rattle.reader.specs.contracts.message.Found.{the_type}
use Rattle.table.specs.declared.Kind.{Kind}
use Rattle.table.specs.declared.Kind.TheVariants as Kinds
use Rattle.table.specs.Kinds.{kind_for}

-- ---- how the opening ran, by what it answered

pub opened_well : (e : Ended ℕ) (n : ℕ) → opening_by e ≡ SubType n → (taken : ℕ) × (e ≡ well n taken)
unfolding opening_by
opened_well (well m taken) n said = (taken, let same : m ≡ n = cc in rw same)
opened_well (badly r missing) n said = absurd (let z : ◌≡◌ {A = ℕ} 0 1 = cc in omega arith)

pub opened_badly : (e : Ended ℕ) (r : Refusal) (missing : ℕ) → opening_by e ≡ Openings.Refused r missing → e ≡ badly r missing
unfolding opening_by
opened_badly (well m taken) r missing said = absurd (let z : ◌≡◌ {A = ℕ} 0 1 = cc in omega arith)
opened_badly (badly q rest) r missing said =
    let same : q ≡ r = cc in
    let count : rest ≡ missing = cc in
    rw (same, count)

-- ---- a heading

-- it ends within the stretch
pub begins : {bs : List ℕ} {end place : ℕ} → Within bs end place → (p : Program Messages.Heading) → Begins end (end_from p bs end place)
unfolding Begins
begins {bs} {end} {place} at p = by_end (Begins end) (end_from p bs end place) (λ d next ran. (ended_at_lem at p ran).room) (λ r missing ran. tt)

-- what is held is held after it
bodied_keeps : (held : Held) (m : Message) → m.after ≡ held → (next missing : ℕ) → lent_after (bodied_by held m next missing) ≡ lent held
unfolding bodied_by lent_after
bodied_keeps held m same next zero = ap lent same
bodied_keeps held m same next (suc missing) = refl

headed_keeps : (held : Held) (bs : List ℕ) (end : ℕ) (d : Ended Messages.Heading) → lent_after (headed_at held bs end d) ≡ lent held
unfolding headed_at lent_after
headed_keeps held bs end (well d at) = bodied_keeps held _ refl _ _
headed_keeps held bs end (badly r missing) = refl

-- ---- a mask has no rows

pub adopted_rows : (held : Held) (place : ℕ) (e : Ended Messages.Adopted) (rows : List ℤ) → rows ≡ rows_after (adopted_by held place e) rows
unfolding adopted_by rows_after over flatten
adopted_rows held place (well d taken) rows = settles (λ o. rows ≡ rows_after o rows) held (mask_said d) (place + taken) refl refl
adopted_rows held place (badly r missing) rows = refl

-- a mask
pub sorted_adopted : (held : Held) (bs : List ℕ) (end place n : ℕ) → kind_for n ≡ Kinds.Mask → read_as held bs end place n ≡ adopted_by held place (run Messages.mask_message (bits_from bs end place))
unfolding read_as
sorted_adopted held bs end place n e = rw e (adopted_ended held place n (bits_from bs end place))

-- ---- in a stretch, under a sound holding

module _ (h : Holding) (fine : sound h ≡ true) where
  -- what it shows
  pub sky_seen : sky_in (view_of h) ≡ sky_held (mask_of h)
  unfolding sky_in
  sky_seen = let s = sounds h fine in rw (s.slots, s.strips)

  pub shows : Shows (view_of h) h.nsat h.strips
  shows =
      let s = sounds h fine in
      record {
        count = ap length s.slots ∙ sym s.nsat;
        few = s.few_satellites;
        apart = subst Distinct (sym s.slots) (held_distinct (mask_of h) s.good_held);
        strips = refl;
        covered = omega (arith, s.few_satellites, s.shaped.strips);
        most = omega (arith, s.shaped.strips);
        thin = s.shaped.strips_narrow;
      }

  -- any message but a mask, by its heading
  pub sorted_headed : {bs : List ℕ} {end place : ℕ} → Within bs end place → (n : ℕ) → (kind_for n ≡ Kinds.Mask → ⊥)
      → read_as (mask_of h) bs end place n
      ≡ headed_at (mask_of h) bs end (end_from (heading_for (kind_for n) (record { held = h.held; iod = h.iod; n = h.nsat; subtype = n }) (sky_in (view_of h))) bs end place)
  unfolding read_as
  sorted_headed {bs} {end} {place} at n other =
      let s = sounds h fine in
      kind_ended at (mask_of h) n h.nsat (kind_for n) other
      ∙ (λ i. headed_at (mask_of h) bs end (end_from (heading_for (kind_for n) (record { held = sym s.held i; iod = sym s.iod i; n = h.nsat; subtype = n }) (sym sky_seen i)) bs end place))

  module _ {bs : List ℕ} {end start : ℕ} (at : Within bs end start) where
    -- a sub type was read
    pub read_sorted : {n next : ℕ} → end_from opening bs end start ≡ well n next → read_at h bs end start ≡ read_as (mask_of h) bs end (start + 16) n
    unfolding read_as
    read_sorted e = read_opened at (mask_of h) e

    -- refused before that: a stop
    pub read_stopped : {r : Refusal} {missing : ℕ} → end_from opening bs end start ≡ badly r missing
        → (unopened_at bs end start r missing ≡ answer_of (read_at h bs end start)) × (lent_after (read_at h bs end start) ≡ lent (mask_of h)) × ((rows : List ℤ) → rows ≡ rows_after (read_at h bs end start) rows)
    unfolding unopened_at answer_of lent_after rows_after
    read_stopped {r} {missing} e = rw (read_unopened at (mask_of h) e) (go (eqb (field bs start (end - start)) 0))
      where
        go : (b : Bool)
            → (cond b Answers.Idle (Answers.Refused r missing) ≡ answer_of (cond b (idle (lent (mask_of h))) (refused r missing (lent (mask_of h)))))
            × (lent_after (cond b (idle (lent (mask_of h))) (refused r missing (lent (mask_of h)))) ≡ lent (mask_of h))
            × ((rows : List ℤ) → rows ≡ rows_after (cond b (idle (lent (mask_of h))) (refused r missing (lent (mask_of h)))) rows)
        go true = (refl, refl, λ rows. refl)
        go false = (refl, refl, λ rows. refl)

    -- ---- by what was found

    -- a mask, behind its number and sub type
    pub record FoundMask : Type 0 where
      pub room : start + 16 ≤ end
      pub adopts : read_at h bs end start ≡ adopted_by (mask_of h) (start + 16) (run Messages.mask_message (bits_from bs end (start + 16)))

    -- or the answer, and any but a mask leaves the holding as it was
    pub record FoundAnswer (a : Answer) : Type 0 where
      pub says : a ≡ answer_of (read_at h bs end start)
      pub keeps : lent_after (read_at h bs end start) ≡ lent (mask_of h)

    -- by the kind
    mask_found : (k : Kind) (o : Outcome) → tag_of the_type (found_as k o) ≡ 0 → k ≡ Kinds.Mask
    unfolding found_as
    mask_found Kinds.Other o e = absurd (omega arith)
    mask_found Kinds.Mask o e = refl
    mask_found Kinds.Packet o e = absurd (omega arith)
    mask_found (Kinds.Masked l) o e = absurd (omega arith)

    answer_found : (k : Kind) (o : Outcome) (a : Answer) → found_as k o ≡ Answered a → (a ≡ answer_of o) × (k ≡ Kinds.Mask → ⊥)
    unfolding found_as
    answer_found Kinds.Other o a e = (cc, λ z. let w : ◌≡◌ {A = ℕ} 0 1 = cc in omega arith)
    answer_found Kinds.Mask o a e = absurd (let w : ◌≡◌ {A = ℕ} 0 1 = cc in omega arith)
    answer_found Kinds.Packet o a e = (cc, λ z. let w : ◌≡◌ {A = ℕ} 0 1 = cc in omega arith)
    answer_found (Kinds.Masked l) o a e = (cc, λ z. let w : ◌≡◌ {A = ℕ} 0 1 = cc in omega arith)

    pub found_mask : tag_of the_type (found_at h bs end start) ≡ 0 → FoundMask
    unfolding opening_by found_by
    found_mask =
        by_end (λ e. tag_of the_type (found_by (opening_by e) (read_at h bs end start)) ≡ 0 → FoundMask) (end_from opening bs end start)
        (λ n next ran tag. record {
          room = (type_taken at ran).after.room;
          adopts = read_sorted ran ∙ sorted_adopted (mask_of h) bs end (start + 16) n (mask_found (kind_for n) (read_at h bs end start) tag);
        })
        (λ r missing ran tag. absurd (omega arith))

    pub found_answer : (a : Answer) → found_at h bs end start ≡ Answered a → FoundAnswer a
    unfolding opening_by found_by
    found_answer a =
        by_end (λ e. found_by (opening_by e) (read_at h bs end start) ≡ Answered a → FoundAnswer a) (end_from opening bs end start)
        (λ n next ran said.
        let it = answer_found (kind_for n) (read_at h bs end start) a said in
        record { says = it.0; keeps = ap lent_after (read_sorted ran ∙ sorted_headed (type_taken at ran).after n it.1) ∙ headed_keeps (mask_of h) bs end _ })
        (λ r missing ran said. record { says = cc; keeps = (read_stopped ran).1 })
