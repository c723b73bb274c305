-- What a step over a stretch comes to, by the reading there: a message or the stop. Assumes nothing.
use mathlib.Core.Path.{◌≡◌, refl, sym, ap, subst, ◌∙◌}
use mathlib.Core.List.{List}
use Prim.Native.Nat.{ℕ, ◌+◌, ◌≤◌, ◌<◌}
use native.Mathlib.Omega.{arith}
use lib.IntN.{ℤ}
use lib.ListN.{length}
use Rattle.format.specs.declared.Answer.TheVariants as Answers
use Rattle.format.specs.declared.Head.{Head}
use Rattle.format.specs.Answers.{Said, stop, said_at}
use Rattle.format.specs.Listing.{message_text, record_text, letter_e, stop_values}
use Rattle.format.specs.Reading.{Outcome, accepted, idle, refused, answer_of, rows_after, lent_after}
use Rattle.format.specs.Table.{Message}
use Rattle.format.specs.Walking.{handed_at}
use Rattle.format.specs.Writing.{rows_in}
use Rattle.format.proofs.Stops.{Stopped, said_stopped, stop_leaves}
use Rattle.holding.specs.Pictures.{picture_of, lent_by}
use Rattle.lines.specs.Records.{message_in}
use Rattle.lister.specs.declared.State.{State}
use Rattle.lister.specs.declared.Step.{Step}
use Rattle.lister.specs.declared.Work.TheVariants.{Walking}
use Rattle.lister.specs.Steps.{Done, next_line, stop_text, stops_as, lists_as, listed_at, answered}
use Rattle.reader.specs.declared.Reading.{Reading}
use Rattle.reader.specs.Readings.{struct_of, holding_after, reading_of, outcome_at, read_at}
use Rattle.reader.proofs.RowsRead.{few_rows, accepted_eight, rows_left}
use Rattle.walk.specs.declared.Tally.{Tally}
use Rattle.walk.specs.Standing.{stand_at, Stands}
use Rattle.walk.proofs.Found.{Accepted, message_of}
use Rattle.walk.proofs.Going.{next_stand, Goes, outcome_there, next_goes}

-- a stop is listed as one
lists_stop : (s : State) (bits : ℕ) (tally : Tally) (o : Outcome) (line : List ℕ) (rows : List ℤ) → Stopped o → lists_as s bits tally o line rows ≡ stops_as s tally o line rows
unfolding lists_as
lists_stop s bits tally (accepted m next) line rows stopped = absurd stopped
lists_stop s bits tally (idle holding) line rows stopped = refl
lists_stop s bits tally (refused r missing holding) line rows stopped = refl

module _ (s : State) (bits : ℕ) (tally : Tally) (line : List ℕ) (rows : List ℤ) (stands : Stands line bits (stand_at s.holding tally rows)) where
  abbrev o : Outcome
  o = outcome_at s.holding line bits tally.place rows

  abbrev d : Done
  d = listed_at s bits tally line rows

  there : o ≡ read_at s.holding line bits tally.place
  there = outcome_there line bits (stand_at s.holding tally rows) stands

  module _ (r : Reading) (said : r ≡ reading_of s.holding o) (after : List ℤ) (left : after ≡ rows_after o rows) where
    answer : r.answer ≡ answer_of o
    unfolding reading_of
    answer = ap (λ (x : Reading). x.answer) said

    -- ---- a message

    module _ (head : Head) (next n : ℕ) (e : r.answer ≡ Answers.Message head next n) where
      abbrev behind : Tally
      behind = record { place = next; messages = tally.messages + 1; rows = tally.rows + n }

      -- what was read
      it : Accepted o next n
      it = message_of o head next n (sym answer ∙ e)

      head_same : it.message.content.head ≡ head
      unfolding answer_of
      head_same = let told : Answers.Message it.message.content.head next (length it.message.content.rows) ≡ Answers.Message head next n = sym (ap answer_of it.outcome) ∙ sym answer ∙ e in cc

      abbrev m : Message
      m = it.message

      kept : after ≡ rows_after (accepted m next) rows
      kept = left ∙ ap (λ (x : Outcome). rows_after x rows) it.outcome

      hold : r.holding ≡ picture_of m.after
      unfolding reading_of lent_after struct_of
      hold = ap (λ (x : Reading). x.holding) said ∙ ap (holding_after s.holding) it.outcome

      back : rows_in n after ≡ m.content.rows
      unfolding outcome_at
      back =
          let eight = accepted_eight (lent_by s.holding) line bits tally.place rows m next it.outcome in
          ap (λ (k : ℕ). rows_in k after) (sym it.count) ∙ ap (rows_in (length m.content.rows)) kept ∙ rows_left m next rows eight

      same_text : message_in head tally.place next n after ≡ message_text (handed_at tally.place m next)
      same_text = λ i. message_text (record { place = tally.place; next = next; content = record { head = sym head_same i; rows = back i } })

      listed : d ≡ lists_as s bits tally (accepted m next) line rows
      listed = ap (λ (x : Outcome). lists_as s bits tally x line rows) it.outcome

      goes : Goes line bits (stand_at s.holding tally rows) (next_stand (stand_at s.holding tally rows) m next)
      goes = next_goes line bits (stand_at s.holding tally rows) stands m next (sym there ∙ it.outcome)

      same_stand : next_stand (stand_at s.holding tally rows) m next ≡ stand_at r.holding behind after
      same_stand = λ i. stand_at (sym hold i) (record { place = next; messages = tally.messages + 1; rows = tally.rows + it.count i }) (sym kept i)

      -- it is listed, and the walk stands behind it
      pub record MessageListed : Type 0 where
        pub stands_behind : Stands line bits (stand_at r.holding behind after)
        pub past : tally.place < next
        pub few : n ≤ 256
        pub text : message_in head tally.place next n after ≡ d.text
        pub result :
            ◌≡◌ {A = Step} (record { state = record { number = s.number; work = Walking bits behind; holding = r.holding }; taken = 0; given = length (message_in head tally.place next n after) })
            (answered d)
        pub numbers : after ≡ d.rows

      pub message_listed : MessageListed
      unfolding lists_as
      message_listed = record {
        stands_behind = subst (Stands line bits) same_stand goes.stands;
        past = goes.past;
        few = omega (arith, it.count, few_rows s.holding stands.held line bits tally.place m next (sym there ∙ it.outcome));
        text = same_text ∙ sym (ap (λ (x : Done). x.text) listed);
        result =
            (λ i. record {
              state = record { number = s.number; work = Walking bits (record { place = next; messages = tally.messages + 1; rows = tally.rows + sym it.count i }); holding = hold i };
              taken = 0;
              given = length (same_text i);
            })
            ∙ sym (ap answered listed);
        numbers = kept ∙ sym (ap (λ (x : Done). x.rows) listed);
      }

    -- ---- a stop

    module _ (number missing : ℕ) (e : said_at tally.place r.answer ≡ stop number tally.place missing) where
      says : said_at tally.place (answer_of o) ≡ stop number tally.place missing
      says = ap (said_at tally.place) (sym answer) ∙ e

      stopped : Stopped o
      stopped = said_stopped tally.place o says

      stops : d ≡ stops_as s tally o line rows
      stops = lists_stop s bits tally o line rows stopped

      stop_same : stop_text number missing tally ≡ (stops_as s tally o line rows).text
      unfolding stops_as
      stop_same = ap (λ (x : Said). record_text letter_e (stop_values x tally.messages tally.rows)) (sym says)

      -- it is listed
      pub record StopListed : Type 0 where
        pub text : stop_text number missing tally ≡ d.text
        pub result : ◌≡◌ {A = Step} (record { state = next_line s r.holding; taken = 0; given = length (stop_text number missing tally) }) (answered d)
        pub numbers : after ≡ d.rows

      pub stop_listed : StopListed
      unfolding stops_as reading_of
      stop_listed =
          let hold : r.holding ≡ holding_after s.holding o = ap (λ (x : Reading). x.holding) said in
          record {
            text = stop_same ∙ sym (ap (λ (x : Done). x.text) stops);
            result = (λ i. record { state = next_line s (hold i); taken = 0; given = length (stop_same i) }) ∙ sym (ap answered stops);
            numbers = left ∙ stop_leaves o rows stopped ∙ sym (ap (λ (x : Done). x.rows) stops);
          }
