-- `lister::onward::onward` meets its contract. Assumes nothing.
use mathlib.Core.Path.{◌≡◌, sym, ap, ◌∙◌}
use mathlib.Core.List.{List}
use Prim.Native.Nat.{ℕ, ◌+◌, ◌^◌, ◌≤◌, ◌<◌}
use native.Mathlib.Omega.{arith}
use lib.IntN.{ℤ}
use lib.ListN.{length}
use lib.Seq.{sets}
use borrow.Author.Rules.{rules}
use Rattle.format.specs.Answers.{stop, said_at}
use Rattle.lister.specs.declared.State.{State}
use Rattle.lister.specs.declared.Step.{Step}
use Rattle.lister.specs.declared.Work.TheVariants.{Walking}
use Rattle.lines.specs.Records.{message_room}
use Rattle.lister.specs.Steps.{Done, stop_text, next_line, listed_at, answered}
use Rattle.lister.proofs.Comes.{MessageListed, message_listed, StopListed, stop_listed}
use Rattle.format.proofs.Numbered.{number_small}
use Rattle.lister.proofs.onward.onward.Statement.{statement}
use Rattle.lister.proofs.onward.onward.Tie as tie
use Rattle.walk.specs.Standing.{stand_at, Stands}

-- what was read
module _ (k : tie.After-read_seen-reading) where
  abbrev s : tie.Start
  s = k.before.before.before.before.before

  abbrev stands : Stands s.args.line.now s.args.bits (stand_at s.args.state.holding s.args.tally s.args.rows.now)
  stands = s.requires.0

  abbrev after : List ℤ
  after = k.read_seen-reading.new.rows

-- a message
module _ (a : tie.In-Message) where
  abbrev k : tie.After-read_seen-reading
  k = a.before.before.before

  listed : MessageListed (s k).args.state (s k).args.bits (s k).args.tally (s k).args.line.now (s k).args.rows.now (stands k) k.read_seen-reading.result k.read_seen-reading.ensures.0
      (after k) k.read_seen-reading.ensures.1 a.in-Message.head a.in-Message.next a.in-Message.n a.in-Message.is
  listed = message_listed _ _ _ _ _ _ _ _ _ _ _ _ _ _

message-given-requires : tie.Need-message-given-requires
message-given-requires c κs =
    let it = listed c.before in
    (omega (arith, it.past), omega (arith, it.stands_behind.there, it.stands_behind.limit), it.few, omega (arith, it.few, it.stands_behind.room), c.requires.1)

overflow_add-behind : tie.Need-overflow_add-behind
overflow_add-behind c =
    let it = listed c.before.before.before.before.before in
    record { fits = omega (arith, it.stands_behind.few, it.stands_behind.there, it.stands_behind.limit) }

overflow_add-behind-in-Message : tie.Need-overflow_add-behind-in-Message
overflow_add-behind-in-Message c =
    let it = listed c.before.before.before.before.before.before in
    record { fits = omega (arith, it.stands_behind.rows, it.stands_behind.few, it.stands_behind.there, it.stands_behind.limit) }

returns-in-Message : tie.Need-returns-in-Message
returns-in-Message c =
    let it = listed c.before.before.before.before.before.before in
    let m = c.in-Message in
    let x = c.args in (
      (λ i. record { state = record { number = x.state.number; work = Walking x.bits (record { place = m.next; messages = x.tally.messages + 1; rows = x.tally.rows + m.n }); holding = c.read_seen-reading.result.holding }; taken = 0; given = c.message-given.ensures.0 i })
          ∙ it.result,
      (it.numbers, (c.message-given.ensures.1.0 ∙ ap (sets x.out.now 0) it.text, c.message-given.ensures.1.1)),
    )

-- a stop
module _ (k : tie.After-read_seen-reading) (number missing : ℕ) (e : said_at (s k).args.tally.place k.read_seen-reading.result.answer ≡ stop number (s k).args.tally.place missing) where
  stops : StopListed (s k).args.state (s k).args.bits (s k).args.tally (s k).args.line.now (s k).args.rows.now (stands k) k.read_seen-reading.result k.read_seen-reading.ensures.0
      (after k) k.read_seen-reading.ensures.1 number missing e
  stops = stop_listed _ _ _ _ _ _ _ _ _ _ _ _ _

  -- as it is answered
  module _ (next : State) (then : next ≡ next_line (s k).args.state k.read_seen-reading.result.holding) (result : Step) (out : List ℕ)
      (told : (result ≡ record { state = next; taken = 0; given = length (stop_text number missing (s k).args.tally) }) × ((out ≡ sets (s k).args.out.now 0 (stop_text number missing (s k).args.tally)) × (result.given ≤ message_room))) where
    abbrev d : Done
    d = listed_at (s k).args.state (s k).args.bits (s k).args.tally (s k).args.line.now (s k).args.rows.now

    stop_answered : (result ≡ answered d) × ((after k ≡ d.rows) × ((out ≡ sets (s k).args.out.now 0 d.text) × (result.given ≤ message_room)))
    stop_answered =
        (told.0 ∙ (λ i. record { state = then i; taken = 0; given = length (stop_text number missing (s k).args.tally) }) ∙ stops.result, (stops.numbers, (told.1.0 ∙ ap (sets (s k).args.out.now 0) stops.text, told.1.1)))

-- the numbers of its line are short
short : (k : tie.After-read_seen-reading) → ((s k).args.tally.place < 2 ^ 31) × ((s k).args.tally.messages < 2 ^ 31) × ((s k).args.tally.rows < 2 ^ 31) × (message_room ≤ length (s k).args.out.now)
short k =
    let f = stands k in
    (omega (arith, f.there, f.limit), omega (arith, f.few, f.there, f.limit), omega (arith, f.rows, f.few, f.there, f.limit), (s k).requires.1)

stop-requires : tie.Need-stop-requires
stop-requires c κs =
    let f = short c.before.before.before.before.before in
    (omega arith, f.0, f.1, f.2, f.3)

stop-requires-in-Refused : tie.Need-stop-requires-in-Refused
stop-requires-in-Refused c κs =
    let f = short c.before.before.before.before.before.before in
    (omega (arith, c.number.ensures, number_small c.in-Refused.r), f.0, f.1, f.2, f.3)

returns-in-Idle : tie.Need-returns-in-Idle
unfolding said_at
returns-in-Idle c =
    let k = c.before.before.before.before.before.before.before.before in
    stop_answered k 0 0 (ap (said_at c.args.tally.place) c.in-Idle.is) c.next_line.result c.next_line.ensures c.stop.result _ c.stop.ensures

returns-in-Refused : tie.Need-returns-in-Refused
unfolding said_at
returns-in-Refused c =
    let k = c.before.before.before.before.before.before.before.before.before in
    let place = c.args.tally.place in
    stop_answered k c.number.result c.in-Refused.missing (ap (said_at place) c.in-Refused.is ∙ ap (λ (m : ℕ). stop m place c.in-Refused.missing) (sym c.number.ensures)) c.next_line-in-Refused.result c.next_line-in-Refused.ensures
    c.stop-in-Refused.result _ c.stop-in-Refused.ensures

pub onward_spec : {M : Type 1} → statement M
onward_spec =
    tie.close
    (tie.spec (λ c κs. sym c.requires.0.held) (λ c. search rules) message-given-requires overflow_add-behind overflow_add-behind-in-Message (λ c. search rules) (λ c κs. search rules) stop-requires
    (λ c. search rules) (λ c κs. search rules) (λ c κs. search rules) stop-requires-in-Refused
    (λ c. search rules) (λ c. search rules) returns-in-Message (λ c. search rules) (λ c. search rules) returns-in-Idle (λ c. search rules) (λ c. search rules) returns-in-Refused)
