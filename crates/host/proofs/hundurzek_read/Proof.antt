-- `host::hundurzek_read` meets its contract. Assumes nothing.
use mathlib.Core.Path.{◌≡◌, sym, ap, ◌∙◌}
use mathlib.Core.List.{List}
use Prim.Native.Nat.{ℕ, ◌+◌}
use native.Mathlib.Omega.{arith}
use lib.ListN.{length}
use borrow.Author.Rules.{rules}
use denote.Enum.Declared.{tag_of}
use Rattle.bits.proofs.Windows.{Bytes}
use Rattle.format.specs.declared.Answer.{Answer}
use Rattle.format.specs.Answers.{said_at}
use Rattle.format.specs.Messages.{mask_message}
use Rattle.format.specs.Programs.{run}
use Rattle.format.specs.Reading.{Outcome, bits_from, lent_after, answer_of, rows_after}
use Rattle.heads.specs.Sorting.{adopted_by}
use Rattle.holding.specs.Pictures.{mask_of}
use Rattle.host.specs.Handing.{handed_by, bytes_after, host_outcome}
use Rattle.host.proofs.Outcomes.{bytes_pass, sought_bytes}
use Rattle.host.proofs.hundurzek_read.Statement.{statement}
use Rattle.host.proofs.hundurzek_read.Tie as tie
use Rattle.passing.specs.Passing.{holding_in}
use Rattle.passing.proofs.Returns.{bytes_return}
use Rattle.reader.specs.Readings.{sought_at}
use Rattle.reader.specs.contracts.message.Found.{the_type}
use Rattle.reader.proofs.Sought.{SoughtMask, sought_mask, sought_answer}

-- what was found, under the holding that the lent bytes say
module _ (c : tie.After-sought-found) where
  abbrev s : tie.Start
  s = c.before.before.before.before

  abbrev lent : List ℕ
  lent = s.args.holding.now

  abbrev outcome : Outcome
  outcome = host_outcome lent s.args.bytes.now s.args.end s.args.start s.args.rows.now

  small : Bytes lent
  small k = omega (arith, c.slice_known-1.given k)

  said : (c.sought-found.result ≡ sought_at (holding_in lent) s.args.bytes.now s.args.end s.args.start (length s.args.rows.now)) × (c.sought-found.new.rows ≡ rows_after outcome s.args.rows.now)
  said = c.sought-found.ensures

returns-in-Answered : tie.Need-returns-in-Answered
unfolding host_outcome
returns-in-Answered c =
    let k = c.before.before.before in
    let x = (s k).args in
    let it = sought_answer (holding_in (lent k)) x.bytes.now x.end x.start x.rows.now c.in-Answered.answer (sym (said k).0 ∙ c.in-Answered.is) in (
      c.hand.ensures ∙ ap (λ (a : Answer). handed_by x.start (said_at x.start a)) it.says,
      (sym (sought_bytes (lent k) x.bytes.now x.end x.start x.rows.now (small k) it), (said k).1),
    )

-- a mask
module _ (c : tie.In-Mask) where
  abbrev k : tie.After-sought-found
  k = c.before.before

  found : SoughtMask (holding_in (lent k)) (s k).args.bytes.now (s k).args.end (s k).args.start (s k).args.rows.now
  found =
      sought_mask (holding_in (lent k)) (s k).args.bytes.now (s k).args.end (s k).args.start (s k).args.rows.now
      (ap (tag_of the_type) (sym (said k).0 ∙ c.in-Mask.is))

  -- it is adopted to what reading there comes to
  adopts : adopted_by (mask_of (holding_in (lent k))) ((s k).args.start + 16) (run mask_message (bits_from (s k).args.bytes.now (s k).args.end ((s k).args.start + 16))) ≡ outcome k
  unfolding host_outcome
  adopts = sym (found.reads ∙ found.found.adopts)

adopt-requires : tie.Need-adopt-requires
adopt-requires c κs =
    let e = c.before in
    let hb = lent (k e) in
    let f = found e in (
      record { inside = f.fine.inside.lent; short = omega (arith, f.fine.inside.limit); room = f.found.room },
      f.fine.held,
      bytes_pass hb f.fine.held,
      bytes_return hb (small (k e)) f.fine.held,
    )

returns-in-Mask : tie.Need-returns-in-Mask
returns-in-Mask c =
    let a = c.before.before.before in
    let e = a.before.before in
    let t = k e in (
      c.hand-in-Mask.ensures ∙ ap (λ (b : Answer). handed_by (s t).args.start (said_at (s t).args.start b)) (a.adopt.ensures.0 ∙ ap answer_of (adopts e)),
      (a.adopt.ensures.1 ∙ ap (λ (o : Outcome). bytes_after (lent_after o) (lent t)) (adopts e), (said t).1),
    )

pub hundurzek_read_spec : {M : Type 1} → statement M
hundurzek_read_spec =
    tie.close
    (tie.spec (λ c κs. search rules) (λ c. search rules) (λ c κs. search rules) (λ c. search rules)
    (λ c. let f = found c.before in omega (arith, f.found.room, f.fine.inside.limit)) adopt-requires (λ c κs. search rules)
    (λ c. search rules) (λ c. search rules) returns-in-Answered (λ c. search rules) (λ c. search rules) returns-in-Mask)
