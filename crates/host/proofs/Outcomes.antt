-- What is known of an answer to reading under a holding lent as bytes. Assumes nothing.
use mathlib.Core.Path.{◌≡◌, refl, sym, ap, subst, ◌∙◌}
use mathlib.Core.Bool.{Bool, true, false, cond}
use mathlib.Core.List.{List}
use Prim.Native.Nat.{ℕ, ◌+◌, ◌≤◌}
use native.Mathlib.Omega.{arith}
use lib.IntN.{ℤ, pos}
use lib.ListN.{length, take, drop}
use denote.Enum.Declared.{tag_of}
use denote.Ref.{Bor}
use Rattle.bits.specs.Parts.{start_of, count_of, part_of, IsPart}
use Rattle.format.specs.declared.Answer.{Answer}
use Rattle.format.specs.declared.Answer.TheVariants as Answers
use Rattle.format.specs.Answers.{said_at}
use Rattle.format.specs.Good.{good, is_holding}
use Rattle.format.specs.Masks.{Held, nothing, Lent, stray, lent}
use Rattle.format.specs.Messages.{Adopted, mask_type, mask_message}
use Rattle.format.specs.Programs.{Ended, well, badly, run}
use Rattle.format.specs.Reading.{Outcome, accepted, idle, refused, reading, changed, kept_by, lent_after, answer_of, over, raw_end}
use Rattle.format.specs.Table.{Message}
use Rattle.heads.specs.Sorting.{mask_said, adopted_by}
use Rattle.format.specs.contracts.Answer.{the_type}
use Rattle.format.proofs.Makes.{makes_good, mask_spelled_lem}
use Rattle.format.proofs.Refusals.{stop_holds}
use Rattle.format.proofs.Stops.{settles, Stopped}
use Rattle.bits.proofs.Windows.{Bytes}
use Rattle.holding.specs.declared.Holding.{Holding}
use Rattle.holding.specs.Pictures.{picture_of, mask_of, sound, lent_by}
use Rattle.holding.proofs.Pictured.{sound_picture}
use Rattle.holding.proofs.Sounds.{sounds}
use Rattle.host.specs.Handing.{handed_by, handed, bytes_after, holding_bytes, kept_bytes, host_outcome}
use Rattle.passing.specs.Passing.{size, bytes_of, holding_in}
use Rattle.passing.proofs.Returns.{passed, sound_passes, bytes_return}
use Rattle.reader.specs.declared.message.Found.{Found}
use Rattle.reader.specs.declared.message.Found.TheVariants.{Mask, Answered}
use Rattle.reader.specs.Readings.{struct_of, outcome_at, sought_at, raw_to}
use Rattle.reader.specs.contracts.message.Found as Found
use Rattle.reader.proofs.Rawed.{none_starts, none_counts, raw_read}
use Rattle.reader.proofs.Sought.{SoughtAnswer, sought_mask, sought_answer}

-- ---- what is lent after a message, as a struct and as bytes

pub after_sound : (h : Holding) (l : Lent) → is_holding l ≡ true → sound (struct_of h l) ≡ true
unfolding is_holding struct_of
after_sound h stray e = absurd (let z : ◌≡◌ {A = ℕ} 0 1 = cc in omega arith)
after_sound h (lent held) e = sound_picture held e

pub after_bytes : (h : Holding) (l : Lent) (hb : List ℕ) → is_holding l ≡ true → over (bytes_of (struct_of h l)) hb ≡ bytes_after l hb
unfolding is_holding struct_of bytes_after
after_bytes h stray hb e = absurd (let z : ◌≡◌ {A = ℕ} 0 1 = cc in omega arith)
after_bytes h (lent held) hb e = refl

-- ---- what a mask message leaves held is good

pub adopted_good : (held : Held) → good held ≡ true → (place : ℕ) (l : List Bool) → is_holding (lent_after (adopted_by held place (run mask_message l))) ≡ true
unfolding adopted_by lent_after is_holding good
adopted_good held fine place l = go (run mask_message l) refl
  where
    go : (e : Ended Adopted) → run mask_message l ≡ e → is_holding (lent_after (adopted_by held place e)) ≡ true
    go (well d taken) ran = settles (λ o. is_holding (lent_after o) ≡ true) held (mask_said d) (place + taken) (makes_good.gives l d taken ran) refl
    go (badly r missing) ran = fine

-- the tag that says idle
pub idle_tag : (a : Answer) → tag_of the_type a ≡ 1 → a ≡ Answers.Idle
idle_tag (Answers.Message h next rows) e = absurd (omega arith)
idle_tag Answers.Idle e = refl
idle_tag (Answers.Refused r missing) e = absurd (omega arith)

-- bytes that say a sound holding are enough
pub bytes_pass : (hb : List ℕ) → sound (holding_in hb) ≡ true → size ≤ length hb
bytes_pass hb e = (passed hb (sound_passes hb e)).long

-- and lent bytes stay where what is lent stays
pub bytes_stay : (hb : List ℕ) → Bytes hb → hb ≡ bytes_after (lent_by (holding_in hb)) hb
unfolding lent_by bytes_after
bytes_stay hb small = go (sound (holding_in hb)) refl
  where
    go : (b : Bool) → sound (holding_in hb) ≡ b → hb ≡ bytes_after (cond b (lent (mask_of (holding_in hb))) stray) hb
    go true e = sym (rw (sounds (holding_in hb) e).picture (bytes_return hb small e))
    go false e = refl

-- what a stop leaves of what they say
pub bytes_kept : (hb : List ℕ) (o : Outcome) → Bytes hb → bytes_after (kept_by o (lent_by (holding_in hb))) hb ≡ kept_bytes o hb
unfolding kept_by kept_bytes bytes_after
bytes_kept hb o small = go (changed o)
  where
    go : (b : Bool) → bytes_after (cond b (lent nothing) (lent_by (holding_in hb))) hb ≡ cond b (over (bytes_of (picture_of nothing)) hb) hb
    go true = refl
    go false = sym (bytes_stay hb small)

-- so idle and every refusal but 13 leave the holding's bytes as they were, and 13 those of the empty holding
pub stop_bytes : (hb bs : List ℕ) (end start : ℕ) (rows : List ℤ) → Bytes hb → Stopped (host_outcome hb bs end start rows)
    → holding_bytes (host_outcome hb bs end start rows) hb ≡ kept_bytes (host_outcome hb bs end start rows) hb
unfolding host_outcome outcome_at
stop_bytes hb bs end start rows small stopped =
    let o = reading (lent_by (holding_in hb)) bs end start rows in
    ap (λ (l : Lent). bytes_after l hb) (stop_holds (lent_by (holding_in hb)) bs end start rows stopped) ∙ bytes_kept hb o small

-- what is answered without a mask being read leaves them as they were
pub sought_bytes : (hb bs : List ℕ) (end start : ℕ) (rows : List ℤ) → Bytes hb → {a : Answer} → SoughtAnswer (holding_in hb) bs end start rows a
    → holding_bytes (host_outcome hb bs end start rows) hb ≡ hb
unfolding host_outcome
sought_bytes hb bs end start rows small it = ap (λ (l : Lent). bytes_after l hb) it.keeps ∙ sym (bytes_stay hb small)

-- an accepted mask message says its sub type
adopted_one : (held : Held) (place : ℕ) (l : List Bool) (m : Message) (next : ℕ) → adopted_by held place (run mask_message l) ≡ accepted m next → m.content.head.subtype ≡ pos mask_type
unfolding adopted_by
adopted_one held place l m next = go (run mask_message l) refl
  where
    go : (e : Ended Adopted) → run mask_message l ≡ e → adopted_by held place e ≡ accepted m next → m.content.head.subtype ≡ pos mask_type
    go (well d taken) ran said =
        settles (λ o. o ≡ accepted m next → m.content.head.subtype ≡ pos mask_type) held (mask_said d) (place + taken)
        (λ it. let same : mask_said d ≡ m = cc in sym (ap (λ (n : Message). n.content.head.subtype) same) ∙ (mask_spelled_lem.gives l d taken ran).0)
        (λ it. absurd (let z : ◌≡◌ {A = ℕ} 0 1 = cc in omega arith)) said
    go (badly r missing) ran said = absurd (let z : ◌≡◌ {A = ℕ} 0 1 = cc in omega arith)

-- so every accepted message but a mask leaves the holding's bytes as they were
pub message_bytes : (hb bs : List ℕ) (end start : ℕ) (rows : List ℤ) → Bytes hb
    → (m : Message) (next : ℕ) → host_outcome hb bs end start rows ≡ accepted m next → ¬ (m.content.head.subtype ≡ pos mask_type)
    → holding_bytes (host_outcome hb bs end start rows) hb ≡ hb
unfolding host_outcome
message_bytes hb bs end start rows small m next said other = go (sought_at (holding_in hb) bs end start (length rows)) refl
  where
    go : (f : Found) → sought_at (holding_in hb) bs end start (length rows) ≡ f → holding_bytes (outcome_at (holding_in hb) bs end start rows) hb ≡ hb
    go Mask e =
        let it = sought_mask (holding_in hb) bs end start rows (ap (tag_of Found.the_type) e) in
        absurd (other (adopted_one (mask_of (holding_in hb)) (start + 16) _ m next (sym (it.reads ∙ it.found.adopts) ∙ said)))
    go (Answered a) e = sought_bytes hb bs end start rows small (sought_answer (holding_in hb) bs end start rows a e)

-- ---- what is handed of an outcome

-- a stop's raw part has offset and count 0
pub stop_raw : (start : ℕ) (o : Outcome) → Stopped o → ((handed start o).offset ≡ 0) × ((handed start o).count ≡ 0)
unfolding handed_by said_at answer_of
stop_raw start (accepted m next) stopped = absurd stopped
stop_raw start (idle l) stopped = (refl, refl)
stop_raw start (refused r missing l) stopped = (refl, refl)

-- offset and count are those of the raw part
raw_handed : (start : ℕ) (o : Outcome) → (start_of start (raw_end o start) ≡ (handed start o).offset) × (count_of start (raw_end o start) ≡ (handed start o).count)
unfolding handed_by said_at answer_of raw_end
raw_handed start (accepted m next) = (refl, refl)
raw_handed start (idle l) = (none_starts start, none_counts start)
raw_handed start (refused r missing l) = (none_starts start, none_counts start)

-- so they are those of the part that `reader::raw` gives for the answer: its bytes, and where it lies
pub handed_raw : (hb : List ℕ) (whole part : Bor (List ℕ)) (end start : ℕ) (rows : List ℤ) → let o = host_outcome hb whole.now end start rows in
    IsPart whole part start (raw_to whole.now start (answer_of o))
    → (part.now ≡ take (handed start o).count (drop (handed start o).offset whole.now)) × (part.ref_ptr.1 ≡ whole.ref_ptr.1 + (handed start o).offset)
unfolding host_outcome outcome_at part_of
handed_raw hb whole part end start rows p =
    let q = subst (IsPart whole part start) (raw_read (lent_by (holding_in hb)) whole.now end start rows) p in
    let same = raw_handed start (outcome_at (holding_in hb) whole.now end start rows) in
    (rw (same.0, same.1) at q.bytes, rw same.0 at q.offset)
