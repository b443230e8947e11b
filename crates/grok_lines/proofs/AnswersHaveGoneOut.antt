-- After each step of the loops that handle lines, exactly what handling the lines so far writes has gone out.
use Rattle.std.proofs.Common.{◌≡◌, ℕ, List, [], ◌∷◌, ◌++◌, Option, Some, None, refl, sym, ap, ◌∙◌, append_assoc, append-nil, take}
use Rattle.std.specs.Io.KnownBytes.{Appends, Consumes, Keeps, IsAtEnd}
use Rattle.grok_lines.specs.Lines.{IsLine, ended_lines_of, unended_of, lines_of, last_line}
use Rattle.grok_lines.specs.Traffic.{Traffic, traffic}
use Rattle.grok_lines.specs.Streams.{GoesOn, HasBegunLines, HasAnsweredInputAnd, HasAnsweredEndedAnd, HasAnsweredSome}
use Rattle.grok_lines.proofs.AppendsAddUp.{appends_both, appends_same, appends_still}
use Rattle.grok_lines.proofs.LinesOfTwoParts.{ended-line, unended-line, line-append, ended-none, unended-none, ended-append, unended-append, lines-split}
use Rattle.grok_lines.proofs.HandlersGoOn.{goes_on_none, goes_on_both}

-- In this file, `E`, `F` and `N` are `answers`, `first_answers` and `is_next` of the trait `LineHandler`.

-- `sent` are the first lines of `all`, what `f` writes for them has gone out, `left` follows them, and `g` handles the
-- lines that come next
pub record Fed {H : Type 0} (E F : H → List (List ℕ) → List ℕ) (N : H → List (List ℕ) → H → Type 0) (f g : H) (old new : Option (List ℕ)) (all left : List ℕ) : Type 0 where
  pub sent : List (List ℕ)
  pub lines : ended_lines_of all ≡ sent ++ ended_lines_of left
  pub unended : unended_of all ≡ unended_of left
  pub written : Appends old new (F f sent)
  pub next : GoesOn E F N f sent g

-- `bytes` were read, what `f` writes for their ended lines has gone out, `left` follows those, and `g` handles the lines
-- that come next
pub record Streamed {H : Type 0} (E F : H → List (List ℕ) → List ℕ) (N : H → List (List ℕ) → H → Type 0) (f g : H) (t : Traffic) (left : List ℕ) : Type 0 where
  pub bytes : List ℕ
  pub read : Consumes t.unread_old t.unread_new bytes
  pub left_is : left ≡ unended_of bytes
  pub is_line : IsLine left
  pub written : Appends t.written_old t.written_new (F f (ended_lines_of bytes))
  pub next : GoesOn E F N f (ended_lines_of bytes) g

pub fed_start : {H : Type 0} (E F : H → List (List ℕ) → List ℕ) (N : H → List (List ℕ) → H → Type 0) (none : (h : H) → F h [] ≡ []) (f : H) (w : Option (List ℕ)) (all : List ℕ) → Fed E F N f f w w all all
fed_start E F N none f w all = record { sent = []; lines = refl; unended = refl; written = rw none (appends_same w); next = goes_on_none E F N none f }

-- what is written for more lines has gone out
written_more : {H : Type 0} (E F : H → List (List ℕ) → List ℕ) (N : H → List (List ℕ) → H → Type 0) (f g : H) (old now new : Option (List ℕ)) (sent more : List (List ℕ))
    → Appends old now (F f sent) → GoesOn E F N f sent g → Appends now new (F g more)
    → Appends old new (F f (sent ++ more))
written_more E F N f g old now new sent more w next m =
    rw (next.first more) (appends_both old now new (F f sent) (F g more) w m)

pub fed_step : {H : Type 0} (E F : H → List (List ℕ) → List ℕ) (N : H → List (List ℕ) → H → Type 0) (f g h : H) (old now new : Option (List ℕ)) (all begun rest line after : List ℕ)
    → Fed E F N f g old now all (begun ++ rest) → IsLine begun → IsLine line → rest ≡ line ++ 10 ∷ after → Appends now new (F g ((begun ++ line) ∷ []))
    → GoesOn E F N g ((begun ++ line) ∷ []) h → Fed E F N f h old new all after
fed_step E F N f g h old now new all begun rest line after fed b k e w next =
    let whole : begun ++ rest ≡ (begun ++ line) ++ 10 ∷ after = ap (λ v. begun ++ v) e ∙ sym (append_assoc begun line (10 ∷ after)) in
    let is : IsLine (begun ++ line) = line-append begun line b k in
    let lines : ended_lines_of (begun ++ rest) ≡ (begun ++ line) ∷ ended_lines_of after = ap ended_lines_of whole ∙ ended-line (begun ++ line) after is in
    let left : unended_of (begun ++ rest) ≡ unended_of after = ap unended_of whole ∙ unended-line (begun ++ line) after is in
    let one = (begun ++ line) ∷ [] in
    record {
      sent = fed.sent ++ one;
      lines = fed.lines ∙ ap (λ v. fed.sent ++ v) lines ∙ sym (append_assoc fed.sent one (ended_lines_of after));
      unended = fed.unended ∙ left;
      written = written_more E F N f g old now new fed.sent one fed.written fed.next w;
      next = goes_on_both E F N f g h fed.sent one fed.next next;
    }

-- the first line that ends in a block has been handled
pub fed_first : {H : Type 0} (E F : H → List (List ℕ) → List ℕ) (N : H → List (List ℕ) → H → Type 0) (none : (h : H) → F h [] ≡ []) (f g : H) (old new : Option (List ℕ)) (begun block line after : List ℕ)
    → IsLine begun → IsLine line → block ≡ line ++ 10 ∷ after → Appends old new (F f ((begun ++ line) ∷ [])) → GoesOn E F N f ((begun ++ line) ∷ []) g
    → Fed E F N f g old new (begun ++ block) after
fed_first E F N none f g old new begun block line after =
    fed_step E F N f f g old old new (begun ++ block) begun block line after (fed_start E F N none f old (begun ++ block))

all_sent : {H : Type 0} (E F : H → List (List ℕ) → List ℕ) (N : H → List (List ℕ) → H → Type 0) (f g : H) (old new : Option (List ℕ)) (all left : List ℕ) (fed : Fed E F N f g old new all left) → IsLine left
    → ended_lines_of all ≡ fed.sent
all_sent E F N f g old new all left fed h = fed.lines ∙ ap (λ v. fed.sent ++ v) (ended-none left h) ∙ append-nil fed.sent

pub fed_end : {H : Type 0} (E F : H → List (List ℕ) → List ℕ) (N : H → List (List ℕ) → H → Type 0) (f g : H) (old new : Option (List ℕ)) (all left : List ℕ) → Fed E F N f g old new all left → IsLine left
    → Appends old new (F f (ended_lines_of all)) × (left ≡ unended_of all)
fed_end E F N f g old new all left fed h = (rw (all_sent E F N f g old new all left fed h) fed.written, sym (fed.unended ∙ unended-none left h))

pub fed_end_next : {H : Type 0} (E F : H → List (List ℕ) → List ℕ) (N : H → List (List ℕ) → H → Type 0) (f g : H) (old new : Option (List ℕ)) (all left : List ℕ) → Fed E F N f g old new all left → IsLine left
    → GoesOn E F N f (ended_lines_of all) g
fed_end_next E F N f g old new all left fed h = rw (all_sent E F N f g old new all left fed h) fed.next

-- what is written for the lines that are left has gone out too
pub fed_whole : {H : Type 0} (E F : H → List (List ℕ) → List ℕ) (N : H → List (List ℕ) → H → Type 0) (f g : H) (old now new : Option (List ℕ)) (all left : List ℕ) → Fed E F N f g old now all left
    → Appends now new (F g (ended_lines_of left)) → Appends old new (F f (ended_lines_of all))
fed_whole E F N f g old now new all left fed w =
    rw fed.lines (written_more E F N f g old now new fed.sent (ended_lines_of left) fed.written fed.next w)

pub fed_whole_next : {H : Type 0} (E F : H → List (List ℕ) → List ℕ) (N : H → List (List ℕ) → H → Type 0) (f g h : H) (old now : Option (List ℕ)) (all left : List ℕ) → Fed E F N f g old now all left
    → GoesOn E F N g (ended_lines_of left) h → GoesOn E F N f (ended_lines_of all) h
fed_whole_next E F N f g h old now all left fed next = rw fed.lines (goes_on_both E F N f g h fed.sent (ended_lines_of left) fed.next next)

-- or a beginning of it
pub fed_begun : {H : Type 0} (E F : H → List (List ℕ) → List ℕ) (N : H → List (List ℕ) → H → Type 0) (f g : H) (old now new : Option (List ℕ)) (all left : List ℕ) → Fed E F N f g old now all left
    → HasBegunLines (F g) (ended_lines_of left) now new → HasBegunLines (F f) (ended_lines_of all) old new
fed_begun E F N f g old now new all left fed (sent, unsent, e, a) = (
  fed.sent ++ sent,
  unsent,
  fed.lines ∙ ap (λ v. fed.sent ++ v) e ∙ sym (append_assoc fed.sent sent unsent),
  written_more E F N f g old now new fed.sent sent fed.written fed.next a,
)

pub begun_whole : (F : List (List ℕ) → List ℕ) (old new : Option (List ℕ)) (lines : List (List ℕ)) → Appends old new (F lines) → HasBegunLines F lines old new
begun_whole F old new lines a = (lines, [], sym (append-nil lines), a)

-- nothing has gone out
pub begun_none : (F : List (List ℕ) → List ℕ) (old new : Option (List ℕ)) (lines : List (List ℕ)) → F [] ≡ [] → Keeps old new → HasBegunLines F lines old new
begun_none F old new lines none keeps = ([], lines, refl, rw none (appends_still old old new [] (appends_same old) keeps))

pub consumes_both : (a b c : Option (List ℕ)) (x y : List ℕ) → Consumes a b x → Consumes b c y → Consumes a c (x ++ y)
consumes_both None b c x y h k = tt
consumes_both (Some xs) None c x y h k = absurd h
consumes_both (Some xs) (Some ys) None x y h k = absurd k
consumes_both (Some xs) (Some ys) (Some zs) x y h k = h ∙ ap (λ v. x ++ v) k ∙ sym (append_assoc x y zs)

consumes_none : (a b : Option (List ℕ)) → Keeps a b → Consumes a b []
consumes_none None b h = tt
consumes_none (Some xs) None h = absurd h
consumes_none (Some xs) (Some ys) h = sym h

consumes_still : (a b c : Option (List ℕ)) (x : List ℕ) → Consumes a b x → Consumes b c [] → Consumes a c x
consumes_still a b c x h k = rw (← append-nil x) (consumes_both a b c x [] h k)

consumes_same : (a : Option (List ℕ)) → Consumes a a []
consumes_same None = tt
consumes_same (Some xs) = refl

pub consumes_zero : (s t : Option (List ℕ)) (n : ℕ) (buf : List ℕ) → n ≡ 0 → Consumes s t (take n buf) → Consumes s t []
consumes_zero s t n buf e h = rw e at h

pub streamed_start : {H : Type 0} (E F : H → List (List ℕ) → List ℕ) (N : H → List (List ℕ) → H → Type 0) (none : (h : H) → F h [] ≡ []) (f : H) (r w : Option (List ℕ)) → Streamed E F N f f (traffic r r w w) []
streamed_start E F N none f r w =
    record { bytes = []; read = consumes_same r; left_is = refl; is_line = tt; written = rw none (appends_same w); next = goes_on_none E F N none f }

pub streamed_still : {H : Type 0} (E F : H → List (List ℕ) → List ℕ) (N : H → List (List ℕ) → H → Type 0) (f g : H) (r s t w v : Option (List ℕ)) (left : List ℕ) → Streamed E F N f g (traffic r s w v) left → Keeps s t → Streamed E F N f g (traffic r t w v) left
streamed_still E F N f g r s t w v left h k =
    record { bytes = h.bytes; read = consumes_still r s t h.bytes h.read (consumes_none s t k); left_is = h.left_is; is_line = h.is_line; written = h.written; next = h.next }

pub streamed_sent : {H : Type 0} (E F : H → List (List ℕ) → List ℕ) (N : H → List (List ℕ) → H → Type 0) (f g : H) (r s w v z : Option (List ℕ)) (left : List ℕ) → Streamed E F N f g (traffic r s w v) left → Keeps v z → Streamed E F N f g (traffic r s w z) left
streamed_sent E F N f g r s w v z left h k =
    record { bytes = h.bytes; read = h.read; left_is = h.left_is; is_line = h.is_line; written = appends_still w v z (F f (ended_lines_of h.bytes)) h.written k; next = h.next }

pub streamed_step : {H : Type 0} (E F : H → List (List ℕ) → List ℕ) (N : H → List (List ℕ) → H → Type 0) (f g k : H) (r s t w v z : Option (List ℕ)) (left block rest : List ℕ) → Streamed E F N f g (traffic r s w v) left → Consumes s t block
    → Appends v z (F g (ended_lines_of (left ++ block))) → GoesOn E F N g (ended_lines_of (left ++ block)) k
    → rest ≡ unended_of (left ++ block) → IsLine rest → Streamed E F N f k (traffic r t w z) rest
streamed_step E F N f g k r s t w v z left block rest h c a next e is =
    let ended : ended_lines_of (h.bytes ++ block) ≡ ended_lines_of h.bytes ++ ended_lines_of (left ++ block) = ended-append h.bytes block ∙ ap (λ u. ended_lines_of h.bytes ++ ended_lines_of (u ++ block)) (sym h.left_is) in
    let unended : unended_of (h.bytes ++ block) ≡ unended_of (left ++ block) = unended-append h.bytes block ∙ ap (λ u. unended_of (u ++ block)) (sym h.left_is) in
    record {
      bytes = h.bytes ++ block;
      read = consumes_both r s t h.bytes block h.read c;
      left_is = e ∙ sym unended;
      is_line = is;
      written = rw ended (written_more E F N f g w v z (ended_lines_of h.bytes) (ended_lines_of (left ++ block)) h.written h.next a);
      next = rw ended (goes_on_both E F N f g k (ended_lines_of h.bytes) (ended_lines_of (left ++ block)) h.next next);
    }

pub streamed_end : {H : Type 0} (E F : H → List (List ℕ) → List ℕ) (N : H → List (List ℕ) → H → Type 0) (f g k : H) (r s t w v z : Option (List ℕ)) (left : List ℕ) → Streamed E F N f g (traffic r s w v) left → Consumes s t [] → IsAtEnd t
    → Appends v z (F g (last_line left)) → GoesOn E F N g (last_line left) k → HasAnsweredInputAnd (F f) (λ lines. GoesOn E F N f lines k) (traffic r t w z)
streamed_end E F N f g k r s t w v z left h c e a next =
    let lines : lines_of h.bytes ≡ ended_lines_of h.bytes ++ last_line left = lines-split h.bytes ∙ ap (λ u. ended_lines_of h.bytes ++ last_line u) (sym h.left_is) in (
      h.bytes,
      consumes_still r s t h.bytes h.read c,
      e,
      rw lines (written_more E F N f g w v z (ended_lines_of h.bytes) (last_line left) h.written h.next a),
      rw lines (goes_on_both E F N f g k (ended_lines_of h.bytes) (last_line left) h.next next),
    )

-- what ended has been handled, and no more was read
pub streamed_ended : {H : Type 0} (E F : H → List (List ℕ) → List ℕ) (N : H → List (List ℕ) → H → Type 0) (f g : H) (t : Traffic) (left : List ℕ) → Streamed E F N f g t left
    → HasAnsweredEndedAnd (F f) (λ lines. GoesOn E F N f lines g) t
streamed_ended E F N f g t left h = (h.bytes, h.read, h.written, h.next)

pub streamed_some : {H : Type 0} (E F : H → List (List ℕ) → List ℕ) (N : H → List (List ℕ) → H → Type 0) (f g : H) (r s t w v z : Option (List ℕ)) (left block : List ℕ) → Streamed E F N f g (traffic r s w v) left → Consumes s t block
    → HasBegunLines (F g) (ended_lines_of (left ++ block)) v z → HasAnsweredSome (F f) (traffic r t w z)
streamed_some E F N f g r s t w v z left block h c (sent, unsent, e, a) =
    let ended : ended_lines_of (h.bytes ++ block) ≡ ended_lines_of h.bytes ++ ended_lines_of (left ++ block) = ended-append h.bytes block ∙ ap (λ u. ended_lines_of h.bytes ++ ended_lines_of (u ++ block)) (sym h.left_is) in
    let lines : lines_of (h.bytes ++ block) ≡ (ended_lines_of h.bytes ++ sent) ++ (unsent ++ last_line (unended_of (h.bytes ++ block)))
    = lines-split (h.bytes ++ block) ∙ rw (ended, e) (simp append_assoc) in (
      h.bytes ++ block,
      consumes_both r s t h.bytes block h.read c,
      (
        ended_lines_of h.bytes ++ sent,
        unsent ++ last_line (unended_of (h.bytes ++ block)),
        lines,
        written_more E F N f g w v z (ended_lines_of h.bytes) sent h.written h.next a,
      ),
    )

pub streamed_last : {H : Type 0} (E F : H → List (List ℕ) → List ℕ) (N : H → List (List ℕ) → H → Type 0) (f g : H) (r s t w v z : Option (List ℕ)) (left : List ℕ) → Streamed E F N f g (traffic r s w v) left → Consumes s t []
    → Keeps v z → HasAnsweredSome (F f) (traffic r t w z)
streamed_last E F N f g r s t w v z left h c k = (
  h.bytes,
  consumes_still r s t h.bytes h.read c,
  (
    ended_lines_of h.bytes,
    last_line (unended_of h.bytes),
    lines-split h.bytes,
    appends_still w v z (F f (ended_lines_of h.bytes)) h.written k,
  ),
)

pub nothing_yet : (F : List (List ℕ) → List ℕ) (r w : Option (List ℕ)) → F [] ≡ [] → HasAnsweredSome F (traffic r r w w)
nothing_yet F r w none = ([], consumes_same r, ([], [], refl, rw none (appends_same w)))

-- ---- if the output failed

pub fed_some : {H : Type 0} (E F : H → List (List ℕ) → List ℕ) (N : H → List (List ℕ) → H → Type 0) (f g : H) (old new : Option (List ℕ)) (all left : List ℕ) → Fed E F N f g old new all left
    → HasBegunLines (F f) (ended_lines_of all) old new
fed_some E F N f g old new all left fed = (fed.sent, ended_lines_of left, fed.lines, fed.written)

-- no more was read
pub streamed_unread : {H : Type 0} (E F : H → List (List ℕ) → List ℕ) (N : H → List (List ℕ) → H → Type 0) (f g : H) (r s t w v z : Option (List ℕ)) (left : List ℕ) → Streamed E F N f g (traffic r s w v) left → t ≡ s
    → Keeps v z → HasAnsweredSome (F f) (traffic r t w z)
streamed_unread E F N f g r s t w v z left h e k = streamed_last E F N f g r s t w v z left h (rw e (consumes_same s)) k
