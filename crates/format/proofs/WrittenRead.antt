-- Writing and reading by their orders: what is written reads back where it was written, whatever stands around it; and what was read is written again to
-- the very bits that it was, anywhere with room. Assumes nothing.
use mathlib.Core.Path.{◌≡◌, refl, sym, ap, ◌∙◌}
use mathlib.Core.Bool.{Bool, true, false, cond, false≢true}
use mathlib.Core.List.{List, [], ◌∷◌, ◌++◌}
use Prim.Native.Nat.{ℕ, ◌+◌, ◌-◌, ◌*◌, ◌≤◌}
use native.Mathlib.Omega.{arith}
use lib.Dec.{leb}
use lib.IntN.{ℤ}
use lib.ListN.{length, take, drop}
use lib.Seq.{take-append-add, take-take, length-take-le}
use borrow.Author.Tests.{le-leb, leb-true}
use Rattle.bits.specs.BitLists.{spell, bits, set_bits, set_bytes}
use Rattle.bits.proofs.BitLists.{length_bits}
use Rattle.bits.proofs.Setting.{drop_set_bits, length_set_bits, bits_set_bytes, length_set_bytes}
use Rattle.format.specs.declared.Head.{Head}
use Rattle.format.specs.Assigned.{blank}
use Rattle.format.specs.Good.{good, is_holding}
use Rattle.format.specs.Masks.{Held, Lent, lent, held_in}
use Rattle.format.specs.Programs.{Ended, well, badly, run}
use Rattle.format.specs.Reading.{row_room, accepted, idle, ended_at, read_from, bits_from, lent_tests, reading_by, reading}
use Rattle.format.specs.Reading as Reading
use Rattle.format.specs.Table.{Message, table, message, spelled_by, spelled}
use Rattle.format.specs.Writing.{wrote, refused, rows_in, exact, limit, writing}
use Rattle.format.proofs.Gates.{read_gated}
use Rattle.format.proofs.HeldGood.{held_good, stays_good}
use Rattle.format.proofs.Placed.{Inside, inside, is_placed}
use Rattle.format.proofs.RoundTrips.{exact_reads, written_again}
use Rattle.format.proofs.Runs.{drop_take, taken_le}
use Rattle.format.proofs.Sames.{and_true, true_and}
use Rattle.format.proofs.Steadiness.{steady_itself}
use Rattle.format.proofs.Stops.{read_so}
use Rattle.format.proofs.Verdicts.{AllHold, all_hold, holds_all}
use Rattle.format.proofs.Walks.{ends_inside}

-- ---- what was accepted

pub record Took (holding : Lent) (bytes : List ℕ) (end start : ℕ) (m : Message) (next : ℕ) : Type 0 where
  pub held : is_holding holding ≡ true
  pub within : Inside bytes end start
  pub taken : ℕ
  pub ran : run (message (held_in holding)) (bits_from bytes end start) ≡ well m taken
  pub sum : start + taken ≡ next

pub took : (holding : Lent) (bytes : List ℕ) (end start : ℕ) (rows : List ℤ) (m : Message) (next : ℕ) → reading holding bytes end start rows ≡ accepted m next
    → Took holding bytes end start m next
unfolding reading_by read_from lent_tests AllHold
took holding bytes end start rows m next e =
    let it = all_hold (λ r. Reading.refused r 0 holding) _ (accepted m next) _ (λ r f. false≢true cc) e in
    let l : List Bool = bits_from bytes end start in
    go (blank l) (run (message (held_in holding)) l) refl it.0 it.1.1.1.0 (inside bytes end start it.1.1.0)
  where
    go : (none : Bool) (r : Ended Message) → run (message (held_in holding)) (bits_from bytes end start) ≡ r
        → cond none (idle (lent (held_in holding))) (ended_at (held_in holding) start r) ≡ accepted m next
        → is_holding holding ≡ true → Inside bytes end start → Took holding bytes end start m next
    go true r ran e held within = absurd (false≢true cc)
    go false r ran e held within =
        let it = read_so (held_in holding) start r m next e in
        record { held = held; within = within; taken = it.taken; ran = ran ∙ it.ran; sum = it.sum }

-- ---- reading what was written

-- what writing tested, where it wrote
pub record Wrote (holding : Lent) (h : Head) (rows : List ℤ) (count : ℕ) (bytes : List ℕ) (start : ℕ) : Type 0 where
  pub held : is_holding holding ≡ true
  pub counted : 8 * count ≤ length rows
  pub right : exact (held_in holding) h (rows_in count rows) ≡ true
  pub room : start + length (spelled (held_in holding) h (rows_in count rows)) ≤ limit bytes

module _ (holding : Lent) (h : Head) (rows : List ℤ) (count : ℕ) (bytes : List ℕ) (start : ℕ) where
  abbrev message_bits : List Bool
  message_bits = spelled (held_in holding) h (rows_in count rows)

  abbrev content : Message
  content = record { content = record { head = h; rows = rows_in count rows }; after = held_in holding }

  pub written : (new : List Bool) → writing holding h rows count bytes start ≡ wrote new → (message_bits ≡ new) × Wrote holding h rows count bytes start
  unfolding writing AllHold
  written new e =
      let it = all_hold refused (wrote message_bits) (wrote new) _ (λ r f. false≢true cc) e in
      let behind = it.1.1.1.1.1.1.1 in
      let last = and_true (leb (8 * count) (length rows)) _ behind.0 in
      let same : wrote message_bits ≡ wrote new = it.0 in
      (cc, record { held = it.1.1.0; counted = leb-true _ _ last.0; right = last.1; room = leb-true _ _ behind.1.0 })

  module _ (w : Wrote holding h rows count bytes start) where
    inside_bytes : start + length message_bits ≤ 8 * length bytes
    unfolding limit
    inside_bytes = omega (arith, w.room)

    -- the bits from the start on are the message's, then whatever stands behind it
    stretch : (end : ℕ) → start + length message_bits ≤ end
        → bits_from (set_bytes bytes start message_bits) end start ≡ message_bits ++ take (end - (start + length message_bits)) (drop (start + length message_bits) (bits bytes))
    unfolding bits_from
    stretch end room =
        let l : List Bool = set_bits (bits bytes) start message_bits in
        let fits : start + length message_bits ≤ length (bits bytes) = rw length_bits inside_bytes in
        let long : start ≤ length l = rw (length_set_bits (bits bytes) start message_bits fits) (omega arith) in
        let all : start + (end - start) ≡ end = omega arith in
        let parts : end - start ≡ length message_bits + (end - (start + length message_bits)) = omega arith in
        ap (λ (x : List Bool). drop start (take end x)) (bits_set_bytes bytes start message_bits inside_bytes)
        ∙ ap (λ (n : ℕ). drop start (take n l)) (sym all)
        ∙ drop_take start (end - start) l long
        ∙ ap (take (end - start)) (drop_set_bits (bits bytes) start message_bits fits)
        ∙ ap (λ (n : ℕ). take n (message_bits ++ drop (start + length message_bits) (bits bytes))) parts
        ∙ take-append-add message_bits (drop (start + length message_bits) (bits bytes)) (end - (start + length message_bits))

    -- a message is not blank: it begins with 4073, whose first bit is one
    not_blank : (more : List Bool) → blank (message_bits ++ more) ≡ false
    unfolding blank spelled spelled_by spell
    not_blank more = refl

    pub reads_back : (end : ℕ) → start + length message_bits ≤ end → end ≤ limit bytes → (buffer : List ℤ) → row_room ≤ length buffer
        → reading holding (set_bytes bytes start message_bits) end start buffer ≡ accepted content (start + length message_bits)
    unfolding reading_by read_from ended_at lent_tests AllHold limit
    reads_back end room few buffer enough =
        let after : List ℕ = set_bytes bytes start message_bits in
        let more : List Bool = take (end - (start + length message_bits)) (drop (start + length message_bits) (bits bytes)) in
        let same : length after ≡ length bytes = length_set_bytes bytes start message_bits in
        let there : Inside after end start = record { limit = omega arith; lent = rw same (omega arith); there = omega arith } in
        holds_all (λ r. Reading.refused r 0 holding) _ (lent_tests (is_holding holding) after end start (length buffer))
        (le-leb _ _ enough, (is_placed after end start there, (w.held, tt)))
        ∙ ap (λ (l : List Bool). read_from table (held_in holding) start l) (stretch end room)
        ∙ rw (not_blank more, exact_reads (held_in holding) h (rows_in count rows) w.right more, steady_itself (held_in holding))

-- ---- writing what was read

-- from bits that read to a message, of numbers that have its rows first
pub writes_again : (held : Held) → good held ≡ true → (l : List Bool) (m : Message) (taken : ℕ) → run (message held) l ≡ well m taken
    → (numbers : List ℤ) (count : ℕ) → rows_in count numbers ≡ m.content.rows → 8 * count ≤ length numbers
    → (bytes : List ℕ) (start : ℕ) → start + taken ≤ limit bytes
    → writing (lent m.after) m.content.head numbers count bytes start ≡ wrote (take taken l)
unfolding writing held_in is_holding AllHold
writes_again held fine l m taken ran numbers count same enough bytes start room =
    let again = written_again held fine l m taken ran in
    let gated = read_gated held fine l m taken ran in
    let right : exact m.after m.content.head (rows_in count numbers) ≡ true = rw same again.0 in
    let spelling : spelled m.after m.content.head (rows_in count numbers) ≡ take taken l = rw same again.1 in
    let size : length (take taken l) ≡ taken = length-take-le taken l (taken_le (message held) l m taken ran) in
    let there : start + length (spelled m.after m.content.head (rows_in count numbers)) ≤ limit bytes = rw (spelling, size) room in
    holds_all refused _ _ (
      le-leb start (limit bytes) (omega arith),
      (
        stays_good held fine l m taken ran,
        (
          gated.ours,
          (
            gated.under,
            (
              gated.issue,
              (
                gated.network,
                (
                  true_and (le-leb _ _ enough) right,
                  (le-leb _ _ there, tt),
                ),
              ),
            ),
          ),
        ),
      ),
    )
    ∙ ap wrote spelling

-- of a stretch
pub writes_read : (holding : Lent) (bytes : List ℕ) (end start : ℕ) (m : Message) (next : ℕ) → Took holding bytes end start m next
    → (numbers : List ℤ) (count : ℕ) → rows_in count numbers ≡ m.content.rows → 8 * count ≤ length numbers
    → (others : List ℕ) (place : ℕ) → place + (next - start) ≤ limit others
    → writing (lent m.after) m.content.head numbers count others place ≡ wrote (take (next - start) (drop start (bits bytes)))
unfolding bits_from
writes_read holding bytes end start m next it numbers count same enough others place room =
    let size : it.taken ≡ next - start = omega (arith, it.sum) in
    let fits = ends_inside table holding bytes end start m it.taken it.ran in
    let all : start + (end - start) ≡ end = omega (arith, fits.1) in
    let long : start ≤ length (bits bytes) = rw length_bits (omega (arith, it.within.lent, it.within.there)) in
    let front : take it.taken (bits_from bytes end start) ≡ take it.taken (drop start (bits bytes)) =
    ap (λ (n : ℕ). take it.taken (drop start (take n (bits bytes)))) (sym all) ∙ ap (take it.taken) (drop_take start (end - start) (bits bytes) long)
    ∙ take-take it.taken (end - start) (drop start (bits bytes)) (omega (arith, fits.1)) in
    writes_again (held_in holding) (held_good holding it.held) (bits_from bytes end start) m it.taken it.ran numbers count same enough others place (rw size room)
    ∙ ap wrote (front ∙ ap (λ (n : ℕ). take n (drop start (bits bytes))) size)
