-- A file with digest lines, and what its caller wrote.
use Rattle.std.proofs.Common.{◌≡◌, ◌≢◌, ◌≤◌, ℕ, Bool, true, false, List, [], ◌∷◌, ◌++◌, length, take, drop}
use Rattle.std.proofs.Common.{refl, sym, ◌∙◌, ap, subst, arith, append_assoc, inl, inr, ◌⊎◌, length-append}
use Rattle.std.proofs.Common.{take-append-drop}
use Rattle.std.proofs.lemmas.List.{append-nil, length-take-le, take_all, take-append-le}
use mathlib.Core.List.{IsPrefix}
use Rattle.md5.specs.Md5.{Holds}
use Rattle.md5.specs.declared.Md5.{Md5}
use Rattle.ps_keep.specs.Digests.{AreDigested, HaveNoDigests, ReadsAfterCrashes, ReadsAs, digest_line, others, since}
use Rattle.ps_keep.specs.Digested.{IsDigested, IsRead, Mirrors}
use Rattle.ps_keep.specs.Traces.{Given}
use Rattle.ps_keep.specs.Lines.{AreLines, IsLine, text, whole_lines}
use Rattle.ps_keep.proofs.CrashLemmas.{front_line, prefix_trans}
use Rattle.ps_keep.proofs.DigestLemmas.{begins_anew, digest-cons, digest_is_line, digested-append, has_form}
use Rattle.ps_keep.proofs.DigestLemmas.{others-append, others_are, plain_back, plain_digested, plain_front}
use Rattle.ps_keep.proofs.DigestLemmas.{plain_others}
use Rattle.ps_keep.proofs.DigestLemmas.{plain_since, since-append}
use Rattle.ps_keep.proofs.LineLemmas.{AreLines-append, Parts, parts, parts_lines, text-append, whole_are, whole_text}

rejoin : (a rest x b c : List ℕ) → rest ++ x ≡ b ++ c → (a ++ rest) ++ x ≡ (a ++ b) ++ c
rejoin a rest x b c e = append_assoc a rest x ∙ ap (λ (l : List ℕ). a ++ l) e ∙ sym (append_assoc a b c)

-- the lines of a beginning have no digest lines either
pub plain_beginning : (a b : List ℕ) → HaveNoDigests (whole_lines (a ++ b)) → HaveNoDigests (whole_lines a)
plain_beginning a b have =
    let p = parts a in
    let all : whole_lines (a ++ b) ≡ p.lines ++ whole_lines (p.rest ++ b) =
    ap (λ (l : List ℕ). whole_lines (l ++ b)) p.is ∙ ap whole_lines (append_assoc (text p.lines) p.rest b)
    ∙ whole_text p.lines (p.rest ++ b) p.each in
    subst HaveNoDigests (sym (parts_lines a p)) (plain_front p.lines (whole_lines (p.rest ++ b)) (subst HaveNoDigests
    all have))

pub mirror_more : (raw written held x : List ℕ) → Mirrors raw written held → HaveNoDigests (whole_lines (written ++ x))
    → Mirrors (raw ++ x) (written ++ x) (held ++ x)
mirror_more raw written held x m have =
    let p = parts (m.rest ++ x) in
    let all : whole_lines (written ++ x) ≡ others m.lines ++ p.lines =
    ap (λ (l : List ℕ). whole_lines (l ++ x)) m.was_given
    ∙ ap whole_lines (append_assoc (text (others m.lines)) m.rest x)
    ∙ whole_text (others m.lines) (m.rest ++ x) (others_are m.lines m.each)
    ∙ ap (λ (ls : List (List ℕ)). others m.lines ++ ls) (parts_lines (m.rest ++ x) p) in
    let plain : HaveNoDigests p.lines = plain_back (others m.lines) p.lines (subst HaveNoDigests all have) in
    record {
      lines = m.lines ++ p.lines;
      rest = p.rest;
      each = AreLines-append m.lines p.lines m.each p.each;
      open_end = p.open_end;
      has = ap (λ (l : List ℕ). l ++ x) m.has ∙ rejoin (text m.lines) m.rest x (text p.lines) p.rest p.is
          ∙ ap (λ (l : List ℕ). l ++ p.rest) (sym (text-append m.lines p.lines));
      was_given = ap (λ (l : List ℕ). l ++ x) m.was_given
          ∙ rejoin (text (others m.lines)) m.rest x (text p.lines) p.rest p.is
          ∙ ap (λ (l : List ℕ). l ++ p.rest) (sym (text-append (others m.lines) p.lines)
          ∙ ap (λ (ls : List (List ℕ)). text (others m.lines ++ ls)) (sym (plain_others p.lines plain))
          ∙ ap text (sym (others-append m.lines p.lines)));
      digested = digested-append [] m.lines p.lines m.digested (plain_digested (since [] m.lines) p.lines plain);
      holds = ap (λ (l : List ℕ). l ++ x) m.holds ∙ rejoin (since [] m.lines) m.rest x (text p.lines) p.rest p.is
          ∙ ap (λ (l : List ℕ). l ++ p.rest) (sym (plain_since (since [] m.lines) p.lines plain)
          ∙ sym (since-append [] m.lines p.lines));
    }

no_bytes : (b : ℕ) (l : List ℕ) → b ∷ l ≡ [] → ⊥
no_bytes b l e = cc

no_tail : (t : List ℕ) (b : ℕ) (bs : List ℕ) → [] ≡ t ++ b ∷ bs → ⊥
no_tail [] b bs e = cc
no_tail (c ∷ t) b bs e = cc

no_line : (r : List ℕ) → IsLine (r ++ 10 ∷ []) → ⊥
no_line [] is = is.0 refl
no_line (b ∷ r) is = no_line r is.1

-- bytes that end in a line feed have no rest after their lines
pub ended : (t rest r : List ℕ) → IsLine rest → r ++ 10 ∷ [] ≡ t ++ rest → rest ≡ []
ended t [] r is e = refl
ended [] (b ∷ rest) r is e = absurd (no_line r (subst IsLine (sym e) is))
ended (c ∷ t) (b ∷ rest) [] is e = let f : [] ≡ t ++ b ∷ rest = cc in absurd (no_tail t b rest f)
ended (c ∷ t) (b ∷ rest) (d ∷ r) is e = let f : r ++ 10 ∷ [] ≡ t ++ b ∷ rest = cc in ended t (b ∷ rest) r is f

pub mirror_digest : (raw written held : List ℕ) (m : Mirrors raw written held) → m.rest ≡ []
    → Mirrors (raw ++ (digest_line held ++ 10 ∷ [])) written (digest_line held ++ 10 ∷ [])
mirror_digest raw written held m none =
    let line = digest_line held in
    let form = has_form held in
    let so_far : held ≡ since [] m.lines = m.holds ∙ ap (λ (l : List ℕ). since [] m.lines ++ l) none
    ∙ append-nil (since [] m.lines) in
    record {
      lines = m.lines ++ line ∷ [];
      rest = [];
      each = AreLines-append m.lines (line ∷ []) m.each (digest_is_line held, tt);
      open_end = tt;
      has = ap (λ (l : List ℕ). l ++ (line ++ 10 ∷ [])) (m.has ∙ ap (λ (l : List ℕ). text m.lines ++ l) none
          ∙ append-nil (text m.lines)) ∙ sym (text-append m.lines (line ∷ [])) ∙ sym (append-nil _);
      was_given = m.was_given
          ∙ ap (λ (ls : List (List ℕ)). text ls ++ m.rest) (sym (others-append m.lines (line ∷ [])
          ∙ ap (λ (ls : List (List ℕ)). others m.lines ++ ls) (digest-cons line [] form)
          ∙ append-nil (others m.lines)))
          ∙ ap (λ (l : List ℕ). text (others (m.lines ++ line ∷ [])) ++ l) none;
      digested = digested-append [] m.lines (line ∷ []) m.digested ((λ _. ap digest_line so_far), tt);
      holds = sym (append-nil _ ∙ since-append [] m.lines (line ∷ []) ∙ begins_anew (since [] m.lines) line form);
    }

-- what is read of a file whose lines are these
reads_lines : (raw written : List ℕ) (lines : List (List ℕ)) (rest end : List ℕ) → AreLines lines → IsLine rest
    → IsLine end → raw ≡ text lines ++ rest → written ≡ text (others lines) ++ end → AreDigested [] lines
    → (lines ≡ [] → end ≡ rest) → ReadsAs raw written
reads_lines raw written lines rest end each is_open is_open_too has given digested none =
    let p : Parts raw = record { lines = lines; rest = rest; each = each; open_end = is_open; is = has } in
    let q : Parts written = record {
      lines = others lines;
      rest = end;
      each = others_are lines each;
      open_end = is_open_too;
      is = given;
    } in
    record {
      digested = subst (AreDigested []) (sym (parts_lines raw p)) digested;
      lines = parts_lines written q ∙ ap others (sym (parts_lines raw p));
      no_line = λ no.
          let nothing : lines ≡ [] = sym (parts_lines raw p) ∙ no in
          given ∙ ap (λ (ls : List (List ℕ)). text (others ls) ++ end) nothing ∙ none nothing
          ∙ sym (has ∙ ap (λ (ls : List (List ℕ)). text ls ++ rest) nothing);
    }

pub mirror_reads : (raw written held : List ℕ) → Mirrors raw written held → ReadsAs raw written
mirror_reads raw written held m =
    reads_lines raw written m.lines m.rest m.rest m.each m.open_end m.open_end m.has m.was_given m.digested (λ _. refl)

-- a beginning of two parts ends in the first, or in the second
pub left_cases : (raw more left : List ℕ) → IsPrefix left (raw ++ more)
    → IsPrefix left raw ⊎ ((x : List ℕ) × (left ≡ raw ++ x) × IsPrefix x more)
left_cases [] more left p = inr (left, refl, p)
left_cases (b ∷ raw) more [] p = inl (b ∷ raw, refl)
left_cases (b ∷ raw) more (c ∷ left) p =
    let same : c ≡ b = let s = p.1 in cc in
    let rest : left ++ p.0 ≡ raw ++ more = let s = p.1 in cc in
    elim (left_cases raw more left (p.0, rest)) [
      | inl q ↦ inl (q.0, λ i. same i ∷ q.1 i)
      | inr q ↦ inr (q.0, (λ i. same i ∷ q.1 i), q.2)
    ]

after : (a b : List ℕ) → IsPrefix a (a ++ b)
after a b = (b, refl)

both_begin : (a x y : List ℕ) → IsPrefix x y → IsPrefix (a ++ x) (a ++ y)
both_begin a x y p = (p.0, append_assoc a x p.0 ∙ ap (λ (l : List ℕ). a ++ l) p.1)

-- a crash while these bytes are written
pub crash_append : (raw written held bytes part : List ℕ) (on_disk synced : ℕ) → synced ≤ length written
    → Mirrors raw written held → HaveNoDigests (whole_lines (written ++ bytes)) → IsPrefix part bytes
    → ReadsAfterCrashes raw on_disk written synced
    → ReadsAfterCrashes (raw ++ part) on_disk (written ++ bytes) synced
crash_append raw written held bytes part on_disk synced no_more m have begins old left is =
    elim (left_cases raw part left is.front) [
      | inl front ↦
          let r = old left (record { front = front; enough = is.enough }) in (
            r.0,
            record {
              front = prefix_trans r.0 written (written ++ bytes) r.1.front
                  (after written bytes);
              enough = r.1.enough;
            },
            r.2,
          )
      | inr cut ↦
          let x = cut.0 in
          let inside : IsPrefix x bytes = prefix_trans x part bytes cut.2 begins in
          let whole : (written ++ x) ++ inside.0 ≡ written ++ bytes = append_assoc written x inside.0
          ∙ ap (λ (l : List ℕ). written ++ l) inside.1 in
          let plain : HaveNoDigests (whole_lines (written ++ x)) = plain_beginning (written ++ x) inside.0 (subst
          (λ (l :
          List ℕ). HaveNoDigests (whole_lines l)) (sym whole) have) in (
            written ++ x,
            record {
              front = both_begin written x bytes inside;
              enough = let l = length-append written x in omega arith;
            },
            subst (λ (l : List ℕ). ReadsAs l (written ++ x)) (sym cut.1) (mirror_reads (raw ++ x) (written ++ x) (held
                ++ x) (mirror_more raw written held x m plain)),
          )
    ]

-- a beginning of a digest line and its line feed adds no line, or the digest line
pub digest_part : (raw written held x : List ℕ) (m : Mirrors raw written held) → m.rest ≡ []
    → m.lines ≢ [] → IsPrefix x (digest_line held ++ 10 ∷ []) → ReadsAs (raw ++ x) written
digest_part raw written held x m none some begins =
    elim (left_cases (digest_line held) (10 ∷ []) x begins) [
      | inl front ↦ open_part x (front_line x front.0 (digest_line held) front.1 (digest_is_line held))
      | inr more ↦ go more.0 more.1 more.2
    ]
  where
    has : raw ≡ text m.lines
    has = m.has ∙ ap (λ (l : List ℕ). text m.lines ++ l) none ∙ append-nil (text m.lines)

    open_part : (y : List ℕ) → IsLine y → ReadsAs (raw ++ y) written
    open_part y is = reads_lines (raw ++ y) written m.lines y m.rest m.each is m.open_end (ap (λ (l : List ℕ). l ++ y)
        has) m.was_given m.digested (λ no. absurd (some no))

    go : (y : List ℕ) → x ≡ digest_line held ++ y → IsPrefix y (10 ∷ []) → ReadsAs (raw ++ x) written
    go [] e p = open_part x (subst IsLine (sym (e ∙ append-nil (digest_line held))) (digest_is_line held))
    go (b ∷ y) e p =
        let feed : b ≡ 10 = let s = p.1 in cc in
        let nothing : y ++ p.0 ≡ [] = let s = p.1 in cc in
        let end : y ≡ [] = empty y p.0 nothing in
        let line : x ≡ digest_line held ++ 10 ∷ [] = e ∙ (λ i. digest_line held ++ feed i ∷ end i) in
        subst (λ (l : List ℕ). ReadsAs (raw ++ l) written) (sym line) (mirror_reads _ written _ (mirror_digest raw
        written held m none))
      where
        empty : (l r : List ℕ) → l ++ r ≡ [] → l ≡ []
        empty [] r f = refl
        empty (c ∷ l) r f = absurd (no_bytes c (l ++ r) f)

-- a crash while a digest line is written
pub crash_digest : (raw written held part : List ℕ) (on_disk synced : ℕ) (m : Mirrors raw written held)
    → synced ≤ length written → m.rest ≡ [] → m.lines ≢ [] → IsPrefix part (digest_line held ++ 10 ∷ [])
    → ReadsAfterCrashes raw on_disk written synced → ReadsAfterCrashes (raw ++ part) on_disk written synced
crash_digest raw written held part on_disk synced m no_more none some begins old left is =
    elim (left_cases raw part left is.front) [
      | inl front ↦ old left (record { front = front; enough = is.enough })
      | inr cut ↦ (
        written,
        record { front = ([], append-nil written); enough = no_more },
        subst (λ (l : List ℕ). ReadsAs l written) (sym cut.1) (digest_part raw written held cut.0 m none some
            (prefix_trans
            cut.0 part (digest_line held ++ 10 ∷ []) cut.2 begins)),
      )
    ]

whole_left : (left raw : List ℕ) → IsPrefix left raw → length raw ≤ length left → left ≡ raw
whole_left [] [] p enough = refl
whole_left [] (b ∷ raw) p enough = absurd (omega arith)
whole_left (c ∷ left) [] p enough = absurd (no_bytes c (left ++ p.0) p.1)
whole_left (c ∷ left) (b ∷ raw) p enough =
    let same : c ≡ b = let s = p.1 in cc in
    let rest : left ++ p.0 ≡ raw = let s = p.1 in cc in
    let more = whole_left left raw (p.0, rest) (omega arith) in
    λ i. same i ∷ more i

-- once all is on the disk, a crash leaves it
pub crash_synced : (raw written held : List ℕ) (on_disk synced : ℕ) → on_disk ≡ length raw → synced ≡ length written
    → Mirrors raw written held → ReadsAfterCrashes raw on_disk written synced
crash_synced raw written held on_disk synced all_of these m left is =
    let same = whole_left left raw is.front (omega (arith, is.enough)) in (
      written,
      record { front = ([], append-nil written); enough = omega arith },
      subst (λ (l : List ℕ). ReadsAs l written) (sym same) (mirror_reads raw written held m),
    )

-- .. and it reads as all of these bytes
pub all_there : (raw written held : List ℕ) (on_disk synced : ℕ) → on_disk ≡ length raw → synced ≡ length written
    → Mirrors raw written held → ReadsAs (take on_disk raw) (take synced written)
all_there raw written held on_disk synced all_of these m =
    let all : take on_disk raw ≡ raw = take_all on_disk raw (omega arith) in
    let every : take synced written ≡ written = take_all synced written (omega arith) in
    subst (λ (l : List ℕ). ReadsAs l (take synced written)) (sym all) (subst (λ (l : List ℕ). ReadsAs raw l) (sym
    every) (mirror_reads raw written held m))

-- a file as a start leaves it
pub started_digested : (raw clean : List ℕ) (lines : List (List ℕ)) (on_disk synced : ℕ) (hasher : Md5)
    → AreLines lines → raw ≡ text lines → clean ≡ text (others lines) → AreDigested [] lines
    → Holds hasher (since [] lines) → on_disk ≡ length raw → synced ≡ length clean
    → IsDigested raw on_disk clean synced false hasher
started_digested raw clean lines on_disk synced hasher each has given digested hashed all_of these =
    let m : Mirrors raw clean (since [] lines) = record {
      lines = lines;
      rest = [];
      each = each;
      open_end = tt;
      has = has ∙ sym (append-nil (text lines));
      was_given = given ∙ sym (append-nil (text (others lines)));
      digested = digested;
      holds = sym (append-nil (since [] lines));
    } in
    record {
      within = omega arith;
      no_more = omega arith;
      going = λ _ _. record { held = since [] lines; mirrors = m; hashed = hashed };
      crashes = λ _. crash_synced raw clean (since [] lines) on_disk synced all_of these m;
      cut = λ _. all_there raw clean (since [] lines) on_disk synced all_of these m;
    }

true_false : true ≡ false → ⊥
true_false e = cc

still_cut : (raw written more bytes : List ℕ) (on_disk synced : ℕ) → on_disk ≤ length raw → synced ≤ length written
    → ReadsAs (take on_disk raw) (take synced written)
    → ReadsAs (take on_disk (raw ++ more)) (take synced (written ++ bytes))
still_cut raw written more bytes on_disk synced within no_more was =
    subst (λ (l : List ℕ). ReadsAs l (take synced (written ++ bytes))) (sym (take-append-le on_disk raw more within))
    (subst (λ (l : List ℕ). ReadsAs (take on_disk raw) l) (sym (take-append-le synced written bytes no_more)) was)

-- the bytes, or a part of them, are written, and no digest line
pub part_written : (raw written bytes part : List ℕ) (on_disk synced : ℕ) (has_failed : Bool) (hasher next : Md5)
    → IsDigested raw on_disk written synced false hasher → IsPrefix part bytes
    → (has_failed ≡ false → (part ≡ bytes) × ((held : List ℕ) → Holds hasher held → Holds next (held ++ bytes)))
    → IsDigested (raw ++ part) on_disk (written ++ bytes) synced has_failed next
part_written raw written bytes part on_disk synced has_failed hasher next d begins takes =
    record {
      within = let l = length-append raw part in let w = d.within in omega arith;
      no_more = let l = length-append written bytes in let w = d.no_more in omega arith;
      going = λ well have.
          let h = d.going refl (plain_beginning written bytes have) in
          let t = takes well in
          record {
            held = h.held ++ bytes;
            mirrors = subst (λ (l : List ℕ). Mirrors (raw ++ l) (written ++ bytes) (h.held ++ bytes)) (sym t.0)
                (mirror_more
                raw written h.held bytes h.mirrors have);
            hashed = t.1 h.held h.hashed;
          };
      crashes = λ have.
          let before = plain_beginning written bytes have in
          let h = d.going refl before in
          crash_append raw written h.held bytes part on_disk synced d.no_more h.mirrors have begins (d.crashes before);
      cut = λ have.
          still_cut raw written part bytes on_disk synced d.within d.no_more (d.cut
          (plain_beginning written bytes have));
    }

-- bytes that end in a line feed are written, and then the digest line or a part of it
pub digest_written : (raw written bytes start part line : List ℕ) (on_disk synced : ℕ) (has_failed : Bool) (hasher
    between next : Md5) → IsDigested raw on_disk written synced false hasher → bytes ≡ start ++ 10 ∷ []
    → ((held : List ℕ) → Holds hasher held → Holds between (held ++ bytes))
    → ((held : List ℕ) → Holds between held → line ≡ digest_line held ++ 10 ∷ []) → Holds next line
    → IsPrefix part line → (has_failed ≡ false → part ≡ line)
    → IsDigested ((raw ++ bytes) ++ part) on_disk (written ++ bytes) synced has_failed next
digest_written raw written bytes start part line on_disk synced has_failed hasher between next d ends takes is hashed
    begins whole =
    let on = part_written raw written bytes bytes on_disk synced false hasher between d ([], append-nil bytes) (λ _. (
      refl,
      takes,
    )) in
    record {
      within = let l = length-append (raw ++ bytes) part in let w = on.within in omega arith;
      no_more = on.no_more;
      going = λ well have.
          let h = on.going refl have in
          let e = is h.held h.hashed in
          let all : part ≡ digest_line h.held ++ 10 ∷ [] = whole well ∙ e in
          record {
            held = digest_line h.held ++ 10 ∷ [];
            mirrors = subst (λ (l : List ℕ). Mirrors ((raw ++ bytes) ++ l) (written ++ bytes)
                (digest_line h.held ++ 10 ∷
                [])) (sym all) (mirror_digest (raw ++ bytes) (written ++ bytes) h.held h.mirrors
                (no_rest h.held h.mirrors));
            hashed = subst (Holds next) e hashed;
          };
      crashes = λ have.
          let h = on.going refl have in
          crash_digest (raw ++ bytes) (written ++ bytes) h.held part on_disk synced h.mirrors on.no_more
          (no_rest h.held h.mirrors)
          (some_line h.held h.mirrors) (subst (IsPrefix part) (is h.held h.hashed) begins) (on.crashes have);
      cut = λ have.
          subst (λ (l : List ℕ). ReadsAs l (take synced (written ++ bytes))) (sym (take-append-le on_disk
          (raw ++ bytes) part
          on.within)) (on.cut have);
    }
  where
    all_is : (held : List ℕ) (m : Mirrors (raw ++ bytes) (written ++ bytes) held) → (raw ++ start) ++ 10 ∷ []
        ≡ text m.lines ++ m.rest
    all_is held m = append_assoc raw start (10 ∷ []) ∙ ap (λ (l : List ℕ). raw ++ l) (sym ends) ∙ m.has

    some_line : (held : List ℕ) (m : Mirrors (raw ++ bytes) (written ++ bytes) held) → m.lines ≢ []
    some_line held m nothing = empty (raw ++ start) (all_is held m ∙ ap (λ (ls : List
        (List ℕ)). text ls ++ m.rest) nothing
        ∙ ended (text m.lines) m.rest (raw ++ start) m.open_end (all_is held m))
      where
        empty : (l : List ℕ) → l ++ 10 ∷ [] ≡ [] → ⊥
        empty [] e = cc
        empty (b ∷ l) e = cc

    no_rest : (held : List ℕ) (m : Mirrors (raw ++ bytes) (written ++ bytes) held) → m.rest ≡ []
    no_rest held m = ended (text m.lines) m.rest (raw ++ start) m.open_end (append_assoc raw start (10 ∷ [])
        ∙ ap (λ (l : List ℕ). raw ++ l) (sym ends) ∙ m.has)

pub synced_digested : (raw written : List ℕ) (on_disk synced all_disk all_synced : ℕ) (hasher : Md5)
    → IsDigested raw on_disk written synced false hasher → all_disk ≡ length raw → all_synced ≡ length written
    → IsDigested raw all_disk written all_synced false hasher
synced_digested raw written on_disk synced all_disk all_synced hasher d all_of these = record {
  within = omega arith;
  no_more = omega arith;
  going = d.going;
  crashes = λ have.
      let h = d.going refl have in
      crash_synced raw written h.held all_disk all_synced all_of these h.mirrors;
  cut = λ have.
      let h = d.going refl have in
      all_there raw written h.held all_disk all_synced all_of these h.mirrors;
}

-- after a failure nothing more is written
pub failed_digested : (raw written : List ℕ) (on_disk synced : ℕ) (was : Bool) (hasher : Md5)
    → IsDigested raw on_disk written synced was hasher → IsDigested raw on_disk written synced true hasher
failed_digested raw written on_disk synced was hasher d = record {
  within = d.within;
  no_more = d.no_more;
  going = λ well. absurd (true_false well);
  crashes = d.crashes;
  cut = d.cut;
}

-- the same, of a device as it is after a call that failed
pub after_part : (was failed : Bool) (raw raw2 written written2 bytes : List ℕ)
    (on_disk on_disk2 synced synced2 count : ℕ)
    (hasher next : Md5) → IsDigested raw on_disk written synced was hasher → was ≡ false
    → raw2 ≡ raw ++ take count bytes
    → on_disk2 ≡ on_disk → written2 ≡ written ++ bytes → synced2 ≡ synced → failed ≡ true
    → IsDigested raw2 on_disk2 written2 synced2 failed next
after_part was failed raw raw2 written written2 bytes on_disk on_disk2 synced synced2 count hasher next d going e f
    g h i =
    rw (e, f, g, h, i)
    (part_written raw written bytes (take count bytes) on_disk synced true hasher next
    (subst (λ (b : Bool). IsDigested raw on_disk written synced b hasher) going d)
    (drop count bytes, take-append-drop count bytes) (λ no. absurd (true_false no)))

-- .. and after one that went well
pub after_bytes : (was failed : Bool) (raw raw2 written written2 bytes : List ℕ) (on_disk on_disk2 synced synced2 : ℕ)
    (hasher next : Md5) → IsDigested raw on_disk written synced was hasher → was ≡ false → raw2 ≡ raw ++ bytes
    → on_disk2 ≡ on_disk → written2 ≡ written ++ bytes → synced2 ≡ synced → failed ≡ false
    → ((held : List ℕ) → Holds hasher held → Holds next (held ++ bytes))
    → IsDigested raw2 on_disk2 written2 synced2 failed next
after_bytes was failed raw raw2 written written2 bytes on_disk on_disk2 synced synced2 hasher next d going e f g h i
    takes =
    rw (e, f, g, h, i)
    (part_written raw written bytes bytes on_disk synced false hasher next
    (subst (λ (b : Bool). IsDigested raw on_disk written synced b hasher) going d) ([], append-nil bytes) (λ _. (
      refl,
      takes,
    )))

-- the digest line or a part of it came next
pub after_digest : (was failed : Bool) (raw raw2 written written2 bytes start part line : List ℕ)
    (on_disk on_disk2 synced synced2 : ℕ) (hasher between next : Md5) → IsDigested raw on_disk written synced was hasher
    → was ≡ false → bytes ≡ start ++ 10 ∷ [] → raw2 ≡ (raw ++ bytes) ++ part → on_disk2 ≡ on_disk
    → written2 ≡ written ++ bytes → synced2 ≡ synced → ((held : List ℕ) → Holds hasher held → Holds between
    (held ++ bytes))
    → ((held : List ℕ) → Holds between held → line ≡ digest_line held ++ 10 ∷ []) → Holds next line
    → IsPrefix part line → (failed ≡ false → part ≡ line)
    → IsDigested raw2 on_disk2 written2 synced2 failed next
after_digest was failed raw raw2 written written2 bytes start part line on_disk on_disk2 synced synced2 hasher between
    next d going ends e f g h takes is hashed begins whole =
    rw (e, f, g, h)
    (digest_written raw written bytes start part line on_disk synced failed hasher between next
    (subst (λ (b : Bool). IsDigested raw on_disk written synced b hasher) going d) ends takes is hashed begins whole)

-- the device after all was synced
pub after_sync : (was failed : Bool) (raw raw2 : List ℕ) (on_disk on_disk2 : ℕ) (given given2 : Given) (hasher : Md5)
    → IsDigested raw on_disk given.written given.synced was hasher → was ≡ false → raw2 ≡ raw → on_disk2 ≡ length raw2
    → failed ≡ false → given2 ≡ record { written = given.written; synced = length given.written }
    → IsDigested raw2 on_disk2 given2.written given2.synced failed hasher
after_sync was failed raw raw2 on_disk on_disk2 given given2 hasher d going same all_of well is =
    rw (well, is)
    (subst (λ (l : List ℕ). IsDigested l on_disk2 given.written (length given.written) false hasher) (sym same)
    (synced_digested raw given.written on_disk given.synced on_disk2 (length given.written) hasher
    (subst (λ (b : Bool). IsDigested raw on_disk given.written given.synced b hasher) going d) (all_of
    ∙ ap (λ (l : List ℕ). length l) same) refl))

-- .. and as a start makes it
pub after_keep : (failed : Bool) (raw raw2 clean piece : List ℕ) (whole count on_disk : ℕ) (given : Given)
    (hasher : Md5)
    → IsRead raw clean whole hasher → take count clean ≡ text (whole_lines clean) → raw2 ≡ take whole raw
    → on_disk ≡ whole → failed ≡ false → given ≡ record { written = piece; synced = length piece }
    → piece ≡ take count clean → IsDigested raw2 on_disk given.written given.synced failed hasher
after_keep failed raw raw2 clean piece whole count on_disk given hasher r up_to has size well is same =
    rw (well, is)
    (started_digested raw2 piece (whole_lines raw) on_disk (length piece) hasher (whole_are raw) (has ∙ r.ends)
    (same ∙ up_to ∙ ap text r.is_clean.lines) r.is_clean.digested r.hashed
    (size ∙ sym (ap (λ (l : List ℕ). length l) has ∙ length-take-le whole raw r.within)) refl)
