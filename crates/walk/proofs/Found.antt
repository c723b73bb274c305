-- What a walk does by what is found where it stands: a message under the mask, a stop, a mask. Assumes nothing.
use mathlib.Core.Path.{◌≡◌, refl, sym, ap, subst, ◌∙◌}
use mathlib.Core.List.{List, [], flatten}
use mathlib.Core.Logic.{◌⊎◌, inl, inr}
use Prim.Native.Nat.{ℕ, ◌+◌}
use native.Mathlib.Nat.{add-zero}
use native.Mathlib.Omega.{arith}
use lib.IntN.{ℤ}
use lib.ListN.{length}
use denote.Enum.Declared.{tag_of}
use Rattle.adoption.specs.declared.Ending.{Ending}
use Rattle.adoption.specs.declared.Ending.TheVariants as Endings
use Rattle.adoption.specs.contracts.Ending as Ending
use Rattle.format.specs.declared.Answer.{Answer}
use Rattle.format.specs.declared.Answer.TheVariants as Answers
use Rattle.format.specs.declared.Head.{Head}
use Rattle.format.specs.Reading.{Outcome, accepted, idle, refused, lent_after, answer_of, over, rows_after}
use Rattle.format.specs.Masks.{Held}
use Rattle.format.specs.Messages.{Adopted}
use Rattle.format.specs.Programs.{Ended, well, badly}
use Rattle.format.specs.Table.{Message}
use Rattle.format.specs.contracts.Answer as Answer
use Rattle.format.proofs.Stops.{settles, Stopped, stop_leaves}
use Rattle.heads.specs.Sorting.{mask_said, adopted_by}
use Rattle.holding.specs.Pictures.{picture_of, mask_of}
use Rattle.reader.specs.declared.message.Found.{Found}
use Rattle.reader.specs.declared.message.Found.TheVariants.{Mask, Answered}
use Rattle.reader.specs.declared.Reading.{Reading}
use Rattle.reader.specs.Readings.{struct_of, holding_after, reading_of, read_at, found_at, ending_answer}
use Rattle.reader.proofs.Findings.{FoundMask, found_mask, FoundAnswer, found_answer, adopted_rows}
use Rattle.reader.proofs.Lents.{kept}
use Rattle.reader.specs.contracts.message.Found.{the_type}
use Rattle.walk.specs.declared.Halt.{Halt}
use Rattle.walk.specs.Standing.{Stand, stand_at, Stands, walked_from, rows_from}
use Rattle.walk.specs.Pausing.{behind}
use Rattle.walk.proofs.Going.{next_stand, Goes, within, next_goes, stop_walked, stop_numbers}

-- a mask, or a stop
unfoldable pub Halts : Found → Type 0
Halts Mask = Unit {0}
Halts (Answered (Answers.Message head next n)) = ⊥
Halts (Answered Answers.Idle) = Unit {0}
Halts (Answered (Answers.Refused r missing)) = Unit {0}

-- an answer that is a message: the outcome is
pub record Accepted (o : Outcome) (next n : ℕ) : Type 0 where
  pub message : Message
  pub outcome : o ≡ accepted message next
  pub count : length message.content.rows ≡ n

pub message_of : (o : Outcome) (head : Head) (next n : ℕ) → answer_of o ≡ Answers.Message head next n → Accepted o next n
unfolding answer_of
message_of (accepted m to) head next n e =
    let same : to ≡ next = cc in
    record { message = m; outcome = ap (accepted m) same; count = cc }
message_of (idle holding) head next n e = absurd (let z : ◌≡◌ {A = ℕ} 0 1 = cc in omega arith)
message_of (refused r missing holding) head next n e = absurd (let z : ◌≡◌ {A = ℕ} 0 1 = cc in omega arith)

-- the tag of an answer that is no message
pub no_message : (a : Answer) → (tag_of Answer.the_type a ≡ 1) ⊎ (tag_of Answer.the_type a ≡ 2) → Halts (Answered a)
unfolding Halts
no_message (Answers.Message head next n) (inl e) = absurd (omega arith)
no_message (Answers.Message head next n) (inr e) = absurd (omega arith)
no_message Answers.Idle e = tt
no_message (Answers.Refused r missing) e = tt

-- a mask message that is refused
pub refused_halts : (head : Head) (e : Ending) → tag_of Ending.the_type e ≡ 1 → Halts (Answered (ending_answer head e))
unfolding Halts ending_answer
refused_halts head (Endings.Behind next) e = absurd (omega arith)
refused_halts head (Endings.Refused r missing) e = tt

-- the tag of a mask
pub mask_tag : (f : Found) → tag_of the_type f ≡ 0 → Mask ≡ f
mask_tag Mask e = refl
mask_tag (Answered a) e = absurd (omega arith)

-- one that is no message: the outcome is a stop
pub stop_of : (o : Outcome) (a : Answer) → a ≡ answer_of o → Halts (Answered a) → Stopped o
unfolding answer_of Halts
stop_of (accepted m next) a e halts = absurd (rw e at halts)
stop_of (idle holding) a e halts = tt
stop_of (refused r missing holding) a e halts = tt

-- a mask has no rows
adopted_none : (held : Held) (place : ℕ) (e : Ended Adopted) (m : Message) (next : ℕ) → adopted_by held place e ≡ accepted m next → m.content.rows ≡ []
unfolding adopted_by
adopted_none held place (well d taken) m next e =
    settles (λ o. o ≡ accepted m next → m.content.rows ≡ []) held (mask_said d) (place + taken)
    (λ it. let same : mask_said d ≡ m = cc in sym (ap (λ (n : Message). n.content.rows) same))
    (λ it. absurd (let z : ◌≡◌ {A = ℕ} 0 1 = cc in omega arith)) e
adopted_none held place (badly r missing) m next e = absurd (let z : ◌≡◌ {A = ℕ} 0 1 = cc in omega arith)

module _ (bytes : List ℕ) (end : ℕ) (s : Stand) (stands : Stands bytes end s) where
  abbrev outcome : Outcome
  outcome = read_at s.holding bytes end s.tally.place

  abbrev found : Found
  found = found_at s.holding bytes end s.tally.place

  -- ---- any message but a mask, answered

  answered : (a : Answer) → found ≡ Answered a → FoundAnswer s.holding stands.held (within bytes end s stands) a
  answered a e = found_answer s.holding stands.held (within bytes end s stands) a e

  -- a message: the walk goes on behind it
  pub under_goes : (head : Head) (next n : ℕ) → found ≡ Answered (Answers.Message head next n)
      → Goes bytes end s (behind bytes end s next n)
  unfolding lent_after struct_of
  under_goes head next n e =
      let told = answered _ e in
      let it = message_of outcome head next n (sym told.says) in
      let hold : picture_of it.message.after ≡ s.holding = ap (struct_of s.holding) (ap lent_after (sym it.outcome) ∙ told.keeps) ∙ kept s.holding stands.held in
      let same : next_stand s it.message next ≡ behind bytes end s next n =
      λ i. stand_at (hold i) (record { place = next; messages = s.tally.messages + 1; rows = s.tally.rows + it.count i }) (rows_after (sym it.outcome i) s.rows) in
      subst (Goes bytes end s) same (next_goes bytes end s stands it.message next it.outcome)

  -- ---- a mask

  module _ (masked : tag_of the_type found ≡ 0) where
    pub mask_found : FoundMask s.holding stands.held (within bytes end s stands)
    mask_found = found_mask s.holding stands.held (within bytes end s stands) masked

    module _ (r : Reading) (said : r ≡ reading_of s.holding outcome) where
      -- adopted: the walk goes on behind it, under the mask made
      pub mask_goes : (head : Head) (next n : ℕ) → r.answer ≡ Answers.Message head next n
          → Goes bytes end s (stand_at r.holding (record { place = next; messages = s.tally.messages + 1; rows = s.tally.rows }) s.rows)
      unfolding reading_of lent_after struct_of rows_after over flatten
      mask_goes head next n e =
          let it = message_of outcome head next n (sym (ap (λ (x : Reading). x.answer) said) ∙ e) in
          let none : it.message.content.rows ≡ [] = adopted_none _ _ _ it.message next (sym mask_found.adopts ∙ it.outcome) in
          let hold : picture_of it.message.after ≡ r.holding = sym (ap (λ (x : Reading). x.holding) said ∙ ap (holding_after s.holding) it.outcome) in
          let count : s.tally.rows + length it.message.content.rows ≡ s.tally.rows = ap (λ (l : List (List ℤ)). s.tally.rows + length l) none ∙ add-zero s.tally.rows in
          let numbers : over (flatten it.message.content.rows) s.rows ≡ s.rows = ap (λ (l : List (List ℤ)). over (flatten l) s.rows) none in
          let same : next_stand s it.message next ≡ stand_at r.holding (record { place = next; messages = s.tally.messages + 1; rows = s.tally.rows }) s.rows =
          λ i. stand_at (hold i) (record { place = next; messages = s.tally.messages + 1; rows = count i }) (numbers i) in
          subst (Goes bytes end s) same (next_goes bytes end s stands it.message next it.outcome)

      -- refused: a stop
      pub mask_stop : Halts (Answered r.answer)
          → (◌≡◌ {A = Halt} (record { stop = r.answer; tally = s.tally; holding = r.holding }) (walked_from bytes end s)) × (s.rows ≡ rows_from bytes end s)
      unfolding reading_of
      mask_stop halts =
          let answer : r.answer ≡ answer_of outcome = ap (λ (x : Reading). x.answer) said in
          let stopped = stop_of outcome r.answer answer halts in (
            ap (λ (x : Reading). record { stop = x.answer; tally = s.tally; holding = x.holding }) said ∙ stop_walked bytes end s stands stopped,
            stop_numbers bytes end s stands stopped,
          )

  -- ---- a mask or a stop leaves the row buffer as it was

  pub halt_leaves : (f : Found) → f ≡ found → Halts f → rows_after outcome s.rows ≡ s.rows
  halt_leaves Mask e halts =
      ap (λ (o : Outcome). rows_after o s.rows) (mask_found (ap (tag_of the_type) (sym e))).adopts ∙ sym (adopted_rows (mask_of s.holding) (s.tally.place + 16) _ s.rows)
  halt_leaves (Answered a) e halts = stop_leaves outcome s.rows (stop_of outcome a (answered a (sym e)).says halts)

  -- ---- a stop

  pub answered_stop : (a : Answer) → found ≡ Answered a → Halts (Answered a)
      → (◌≡◌ {A = Halt} (record { stop = a; tally = s.tally; holding = s.holding }) (walked_from bytes end s)) × (s.rows ≡ rows_from bytes end s)
  answered_stop a e halts =
      let it = answered a e in
      let stopped = stop_of outcome a it.says halts in
      let hold : s.holding ≡ holding_after s.holding outcome = sym (ap (struct_of s.holding) it.keeps ∙ kept s.holding stands.held) in (
        (λ i. record { stop = it.says i; tally = s.tally; holding = hold i }) ∙ stop_walked bytes end s stands stopped,
        stop_numbers bytes end s stands stopped,
      )
