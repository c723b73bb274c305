-- Demand 2 over the contracts of the functions that write and read: for any way in which a holding is passed, then in Rattle and in C. Assumes nothing.
use mathlib.Core.Path.{◌≡◌, refl, sym, ap, subst, ◌∙◌}
use mathlib.Core.Bool.{Bool, true, false≢true}
use mathlib.Core.List.{List, [], ◌∷◌, ◌++◌, flatten}
use Prim.Native.Nat.{ℕ, zero, suc, ◌+◌, ◌-◌, ◌*◌, ◌≤◌}
use native.Mathlib.Omega.{arith}
use lib.IntN.{ℤ}
use lib.ListN.{length, take, drop, length-append, length-drop}
use lib.Seq.{take-add, length-take-le}
use Rattle.bits.specs.BitLists.{bits, set_bits, set_bytes}
use Rattle.bits.proofs.BitLists.{length_bits}
use Rattle.bits.proofs.Setting.{take_set_bits, new_set_bits, after_set_bits, bits_set_bytes, length_set_bytes, set_bytes_same}
use Rattle.bits.proofs.Windows.{Bytes}
use Rattle.format.specs.declared.Head.{Head}
use Rattle.format.specs.declared.Refusal.{Refusal}
use Rattle.format.specs.Answers.{Said, message, said_at, Done, done, undone, undone_at, number_of}
use Rattle.format.specs.Good.{is_holding}
use Rattle.format.specs.Masks.{Lent, stray, lent, held_in}
use Rattle.format.specs.Reading.{row_room, Outcome, accepted, idle, refused, bits_from, reading, lent_after, over, rows_after, answer_of}
use Rattle.format.specs.Table.{Message, table, spelled}
use Rattle.format.specs.Writing as Writing
use Rattle.format.specs.Writing.{Written, wrote, rows_in, limit, writing, done_writing, bytes_after}
use Rattle.format.proofs.Bodies.{none, more}
use Rattle.format.proofs.HeldGood.{held_good, stays_good}
use Rattle.format.proofs.Walks.{ends_inside}
use Rattle.format.proofs.WrittenRead.{Took, took, written, reads_back, writes_read}
use Rattle.lines.proofs.RowTexts.{length_rows}
use Rattle.promises.specs.RoundTrips.{TheRecords, TheVeryBits, ReadingGivesBack, WritingGivesBack, WritingInPlace, OneAnswer, RefusalLeaves}
use Rattle.promises.proofs.Calls.{Passes, Read, message_parts, never_both}
use Rattle.promises.proofs.Determined.{alike}
use Rattle.reader.proofs.RowsRead.{Eight, accepted_eight, rows_left}

-- ---- rows as numbers

-- so many rows of some numbers are the first of them, eight to a row
flat_rows : (n : ℕ) (rows : List ℤ) → flatten (rows_in n rows) ≡ take (8 * n) rows
unfolding rows_in flatten
flat_rows zero rows = refl
flat_rows (suc n) rows =
    let long : 8 * suc n ≡ 8 + 8 * n = omega arith in
    ap (λ (l : List ℤ). take 8 rows ++ l) (flat_rows n (drop 8 rows)) ∙ sym (take-add 8 (8 * n) rows) ∙ ap (λ (k : ℕ). take k rows) (sym long)

-- and rows of eight have as many
eight_long : (rows : List (List ℤ)) → Eight rows → length (flatten rows) ≡ 8 * length rows
unfolding flatten
eight_long [] none = refl
eight_long (r ∷ rs) (more eight eights) = length-append r (flatten rs) ∙ omega (arith, eight_long rs eights)

-- a buffer in which a message's rows stand first has room for them
rows_there : (m : Message) (next : ℕ) (rows : List ℤ) → Eight m.content.rows → 8 * length m.content.rows ≤ length (rows_after (accepted m next) rows)
unfolding rows_after over
rows_there m next rows eight = rw (length-append (flatten m.content.rows) (drop (length (flatten m.content.rows)) rows)) (omega (arith, eight_long m.content.rows eight))

-- bytes of one length have one limit
limit_by : (a b : List ℕ) → length a ≡ length b → limit a ≡ limit b
unfolding limit
limit_by a b e = rw e

-- what is a holding is what it holds
as_lent : (l : Lent) → is_holding l ≡ true → lent (held_in l) ≡ l
unfolding is_holding held_in
as_lent stray e = absurd (false≢true e)
as_lent (lent held) e = refl

-- ---- for any way in which a holding is passed

module _ {H : Type 0} (lent_in : H → Lent) (leave : Lent → H → H) where
  -- a call that answers and leaves what writing comes to; reading a stop leaves its holding as it was passed
  pub record Write (h : H) (head : Head) (rows : List ℤ) (count : ℕ) (bytes : List ℕ) (start : ℕ) (said : Done) (left : List ℕ) : Type 0 where
    pub says : said ≡ done_writing start (writing (lent_in h) head rows count bytes start)
    pub leaves : left ≡ bytes_after (writing (lent_in h) head rows count bytes start) bytes start
    pub octets : Bytes bytes
    pub stays : leave (lent_in h) h ≡ h

  pub one_answer : OneAnswer Write
  unfolding OneAnswer
  one_answer h head rows count bytes start said other left rest w v = (alike w.says v.says, alike w.leaves v.leaves)

  pub refusal_leaves : RefusalLeaves Write
  unfolding RefusalLeaves done_writing bytes_after undone_at
  refusal_leaves h head rows count bytes start number place left w = go (writing (lent_in h) head rows count bytes start) w.says w.leaves
    where
      go : (o : Written) → undone number place ≡ done_writing start o → left ≡ bytes_after o bytes start
          → (left ≡ bytes) × ((place ≡ start) × ((r : Refusal) × (number ≡ number_of r)))
      go (wrote new) e f = absurd (false≢true cc)
      go (Writing.refused r) e f = (f, (cc, (r, cc)))

  -- ---- reading what was written

  module _ (h : H) (head : Head) (rows : List ℤ) (count : ℕ) (bytes : List ℕ) (start : ℕ) (same : leave (lent_in h) h ≡ h) where
    abbrev content : Message
    content = record { content = record { head = head; rows = rows_in count rows }; after = held_in (lent_in h) }

    -- where the reading there accepts the message, the call gives back the records
    records_so : (there : List ℕ) (end next : ℕ) (buffer : List ℤ) → is_holding (lent_in h) ≡ true → reading (lent_in h) there end start buffer ≡ accepted content next
        → (said : Said) (left : H) (after : List ℤ) → Read lent_in leave there end h start buffer said left after
        → TheRecords h head rows count next buffer said left after
    unfolding said_at answer_of lent_after rows_after
    records_so there end next buffer held e said left after r = record {
      answer = r.says ∙ ap (λ (o : Outcome). said_at start (answer_of o)) e ∙ ap (λ (n : ℕ). message head next n) (length_rows count rows);
      numbers = r.writes ∙ ap (λ (o : Outcome). rows_after o buffer) e ∙ ap (λ (l : List ℤ). over l buffer) (flat_rows count rows);
      held = r.holds ∙ ap (λ (o : Outcome). leave (lent_after o) h) e ∙ ap (λ (l : Lent). leave l h) (as_lent (lent_in h) held) ∙ same;
    }

    -- and it does wherever writing wrote
    reads_written : (new : List Bool) → writing (lent_in h) head rows count bytes start ≡ wrote new → (next : ℕ) (there : List ℕ) → next ≡ start + length new
        → there ≡ set_bytes bytes start new → (end : ℕ) → next ≤ end → end ≤ limit there → (buffer : List ℤ) → row_room ≤ length buffer
        → (is_holding (lent_in h) ≡ true) × (reading (lent_in h) there end start buffer ≡ accepted content next)
    reads_written new e next there place set end room few buffer enough =
        let it = written (lent_in h) head rows count bytes start new e in
        let bits : List Bool = spelled (held_in (lent_in h)) head (rows_in count rows) in
        let after : there ≡ set_bytes bytes start bits = set ∙ ap (set_bytes bytes start) (sym it.0) in
        let behind : next ≡ start + length bits = place ∙ ap (λ (l : List Bool). start + length l) (sym it.0) in
        let size : limit there ≡ limit bytes = ap limit after ∙ same_limit _ in
        (it.1.held, rw (after, behind) (reads_back (lent_in h) head rows count bytes start it.1 end (rw behind at room) (rw size at few) buffer enough))
      where
        same_limit : (l : List Bool) → limit (set_bytes bytes start l) ≡ limit bytes
        same_limit l = limit_by _ _ (length_set_bytes bytes start l)

  pub reading_gives_back : ReadingGivesBack Write (Read lent_in leave)
  unfolding ReadingGivesBack done_writing bytes_after undone_at
  reading_gives_back h head rows count bytes start next there w end room few buffer enough said left after r =
      go (writing (lent_in h) head rows count bytes start) refl w.says w.leaves
    where
      go : (o : Written) → writing (lent_in h) head rows count bytes start ≡ o → done next ≡ done_writing start o → there ≡ bytes_after o bytes start
          → TheRecords h head rows count next buffer said left after
      go (wrote new) e place set =
          let place : next ≡ start + length new = cc in
          let it = reads_written h head rows count bytes start w.stays new e next there place set end room few buffer enough in
          records_so h head rows count bytes start w.stays there end next buffer it.0 it.1 said left after r
      go (Writing.refused r) e place set = absurd (false≢true cc)

  -- ---- writing what was read

  module _ (passes : Passes lent_in leave) (bytes : List ℕ) (end : ℕ) (h : H) (start : ℕ) (rows : List ℤ) where
    -- what a call says that read a message: that the reading there accepted it
    record Accepts (head : Head) (next count : ℕ) (left : H) (after : List ℤ) : Type 0 where
      m : Message
      is : reading (lent_in h) bytes end start rows ≡ accepted m next
      headed : m.content.head ≡ head
      counted : length m.content.rows ≡ count
      held : left ≡ leave (lent m.after) h
      numbers : after ≡ rows_after (accepted m next) rows

    accepts : (head : Head) (next count : ℕ) (left : H) (after : List ℤ) → Read lent_in leave bytes end h start rows (message head next count) left after
        → Accepts head next count left after
    unfolding said_at answer_of lent_after
    accepts head next count left after r = go (reading (lent_in h) bytes end start rows) refl r.says r.holds r.writes
      where
        go : (o : Outcome) → reading (lent_in h) bytes end start rows ≡ o → message head next count ≡ said_at start (answer_of o) → left ≡ leave (lent_after o) h
            → after ≡ rows_after o rows → Accepts head next count left after
        go (accepted m place) e said holds writes =
            let parts = message_parts said in
            let there : place ≡ next = sym parts.1.0 in
            record {
              m = m;
              is = e ∙ ap (accepted m) there;
              headed = sym parts.0;
              counted = sym parts.1.1;
              held = holds;
              numbers = writes ∙ ap (λ (n : ℕ). rows_after (accepted m n) rows) there;
            }
        go (idle l) e said holds writes = never_both (sym said)
        go (refused r missing l) e said holds writes = never_both (sym said)

    module _ (head : Head) (next count : ℕ) (left : H) (after : List ℤ) (r : Read lent_in leave bytes end h start rows (message head next count) left after) where
      abbrev a : Accepts head next count left after
      a = accepts head next count left after r

      abbrev t : Took (lent_in h) bytes end start a.m next
      t = took (lent_in h) bytes end start rows a.m next a.is

      -- the bits that it had
      abbrev very : List Bool
      very = take (next - start) (drop start (bits bytes))

      -- the message lies in the stretch
      ends_there : (start ≤ next) × (next ≤ limit bytes)
      unfolding limit
      ends_there =
          let fits = ends_inside table (lent_in h) bytes end start a.m t.taken t.ran in
          (omega (arith, t.sum), omega (arith, t.sum, fits.1, t.within.limit, t.within.lent))

      very_long : length very ≡ next - start
      unfolding limit
      very_long = length-take-le (next - start) (drop start (bits bytes)) (rw (length-drop, length_bits) (omega (arith, ends_there.1)))

      -- what reading left lends what the message left held
      lends : lent_in left ≡ lent a.m.after
      lends =
          ap lent_in a.held
          ∙ passes.lends h a.m.after (stays_good (held_in (lent_in h)) (held_good (lent_in h) t.held) (bits_from bytes end start) a.m t.taken t.ran)

      writes_so : (others : List ℕ) (place : ℕ) → place + (next - start) ≤ limit others → writing (lent_in left) head after count others place ≡ wrote very
      writes_so others place room =
          let eight = accepted_eight (lent_in h) bytes end start rows a.m next a.is in
          let same : writing (lent_in left) head after count others place
          ≡ writing (lent a.m.after) a.m.content.head (rows_after (accepted a.m next) rows) (length a.m.content.rows) others place =
          λ i. writing (lends i) (sym a.headed i) (a.numbers i) (sym a.counted i) others place in
          same
          ∙ writes_read (lent_in h) bytes end start a.m next t (rows_after (accepted a.m next) rows) (length a.m.content.rows) (rows_left a.m next rows eight)
          (rows_there a.m next rows eight) others place room

      bits_so : (others : List ℕ) (place : ℕ) → place + (next - start) ≤ limit others → (said : Done) (there : List ℕ) → Write left head after count others place said there
          → TheVeryBits bytes start next others place said there
      unfolding done_writing bytes_after limit
      bits_so others place room said there w =
          let e = writes_so others place room in
          let long = very_long in
          let set : there ≡ set_bytes others place very = w.leaves ∙ ap (λ (o : Written). bytes_after o others place) e in
          let inside : place + length very ≤ 8 * length others = rw long (omega arith) in
          let fits : place + length very ≤ length (bits others) = rw length_bits inside in
          let now : bits there ≡ set_bits (bits others) place very = ap bits set ∙ bits_set_bytes others place very inside in
          record {
            answer = w.says ∙ ap (done_writing place) e ∙ ap (λ (n : ℕ). done (place + n)) long;
            very =
                ap (λ (l : List Bool). take (next - start) (drop place l)) now
                ∙ subst (λ (n : ℕ). take n (drop place (set_bits (bits others) place very)) ≡ very) long (new_set_bits (bits others) place very fits);
            before = rw now (take_set_bits (bits others) place very fits);
            behind =
                ap (drop (place + (next - start))) now
                ∙ subst (λ (n : ℕ). drop (place + n) (set_bits (bits others) place very) ≡ drop (place + n) (bits others)) long (after_set_bits (bits others) place very fits);
            set = set;
          }

  pub writing_gives_back : Passes lent_in leave → WritingGivesBack Write (Read lent_in leave)
  unfolding WritingGivesBack
  writing_gives_back passes bytes end h start rows head next count left after r others place room said there w =
      bits_so passes bytes end h start rows head next count left after r others place room said there w

  pub writing_in_place : Passes lent_in leave → WritingInPlace Write (Read lent_in leave)
  unfolding WritingInPlace limit
  writing_in_place passes bytes end h start rows head next count left after r said there w =
      let room = ends_there passes bytes end h start rows head next count left after r in
      let whole : start + (next - start) ≡ next = omega (arith, room.0) in
      let it = bits_so passes bytes end h start rows head next count left after r bytes start (rw whole room.1) said there w in
      (it.answer ∙ ap done whole, it.set ∙ set_bytes_same bytes start (next - start) w.octets (omega (arith, room.1)))

-- ---- functions that allow no more than others

module _ {H : Type 0} {W X : H → Head → List ℤ → ℕ → List ℕ → ℕ → Done → List ℕ → Type 0}
    (f : (h : H) (head : Head) (rows : List ℤ) (count : ℕ) (bytes : List ℕ) (start : ℕ) (said : Done) (left : List ℕ)
    → X h head rows count bytes start said left → W h head rows count bytes start said left) where
  pub one_so : OneAnswer W → OneAnswer X
  unfolding OneAnswer
  one_so one h head rows count bytes start said other left rest w v =
      one h head rows count bytes start said other left rest (f h head rows count bytes start said left w) (f h head rows count bytes start other rest v)

  pub refusal_so : RefusalLeaves W → RefusalLeaves X
  unfolding RefusalLeaves
  refusal_so leaves h head rows count bytes start number place left w = leaves h head rows count bytes start number place left (f h head rows count bytes start _ left w)

  module _ {R Q : List ℕ → ℕ → H → ℕ → List ℤ → Said → H → List ℤ → Type 0}
      (g : (bytes : List ℕ) (end : ℕ) (h : H) (start : ℕ) (rows : List ℤ) (said : Said) (left : H) (after : List ℤ)
      → Q bytes end h start rows said left after → R bytes end h start rows said left after) where
    pub records_too : ReadingGivesBack W R → ReadingGivesBack X Q
    unfolding ReadingGivesBack
    records_too back h head rows count bytes start next there w end room few buffer enough said left after r =
        back h head rows count bytes start next there (f h head rows count bytes start _ there w) end room few buffer enough said left after
        (g there end h start buffer said left after r)

    pub bits_too : WritingGivesBack W R → WritingGivesBack X Q
    unfolding WritingGivesBack
    bits_too back bytes end h start rows head next count left after r others place room said there w =
        back bytes end h start rows head next count left after (g bytes end h start rows _ left after r) others place room said there
        (f left head after count others place said there w)

    pub place_too : WritingInPlace W R → WritingInPlace X Q
    unfolding WritingInPlace
    place_too back bytes end h start rows head next count left after r said there w =
        back bytes end h start rows head next count left after (g bytes end h start rows _ left after r) said there (f left head after count bytes start said there w)
