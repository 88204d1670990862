-- A stream that is read message by message.
use Rattle.std.proofs.Common.{◌≡◌, ◌∙◌, ◌<◌, ◌≤◌, ◌+◌, ◌-◌, ℕ, List, [], ◌∷◌, ◌++◌, length, take, drop, Some, None, refl, sym, ap, arith, subst, append_assoc, append-nil, length-append, length-take, length-drop, drop-drop, true, false, ⊎_elim}
use Rattle.std.proofs.Math.ListN.{drop_of_length-le}
use Rattle.std.proofs.lemmas.Bool.{cases_lt}
use Rattle.std.proofs.lemmas.List.{take-append-drop}
use Rattle.lw_frame.specs.Header.{whole}
use Rattle.lw_frame.specs.Frames.{with_body, split, message}
use Rattle.lw_frame.specs.Stage.{IsAt, HeaderSays}
use Rattle.lw_frame.specs.Reading.{bytes_of, IsRead, Grows, ReadsMessages, Continues, with_bodies, is_whole, is_waiting, failure}
use Rattle.lw_frame.proofs.Messages.{message_whole}
use Rattle.lw_frame.proofs.Splits.{split_message}
use Rattle.lw_frame.specs.declared.incoming.Incoming.{Incoming}
use Rattle.lw_frame.specs.declared.stage.Stage.{Stage}
use Rattle.lw_frame.specs.declared.stage.Stage.TheVariants as stage

-- one after another
pub continues_on : (start at end : ℕ) (bytes rest last : List ℕ) (bodies more_bodies : List (List ℕ)) → Continues start bytes bodies at rest → Continues at rest more_bodies end last → Continues start bytes (bodies ++ more_bodies) end last
continues_on start at end bytes rest last bodies more_bodies first next more =
    first more ∙ ap (with_bodies bodies) (next more) ∙ ap (λ bs. record (split end (last ++ more)) { bodies = bs }) (sym (append_assoc bodies more_bodies (split end (last ++ more)).bodies))

at_whole : (s : Stage) (start : ℕ) (header body : List ℕ) → IsAt s start header body → is_whole s ≡ true → HeaderSays start header (whole (length header) (length body))
at_whole (stage.Header line given) start header body at h = cc
at_whole (stage.Content missing) start header body at h = cc
at_whole stage.Whole start header body at h = at
at_whole (stage.Failed fault) start header body at h = cc

grown_bytes : (old new : Incoming) (piece : List ℕ) (used : ℕ) → Grows old new piece used → bytes_of old ++ piece ≡ bytes_of new ++ drop used piece
grown_bytes old new piece used grows =
    ap (λ bs. bytes_of old ++ bs) (sym (take-append-drop used piece)) ∙ sym (append_assoc (bytes_of old) (take used piece) (drop used piece)) ∙ ap (λ bs. bs ++ drop used piece) (sym grows.bytes)

pub grown_size : (old new : Incoming) (piece : List ℕ) (used : ℕ) → Grows old new piece used → length (bytes_of new) ≡ length (bytes_of old) + used
grown_size old new piece used grows = omega (arith, ap length grows.bytes, length-append (bytes_of old) (take used piece), length-take used piece, grows.within)

-- a message that is whole, and what is left of the piece
pub continues_whole : (old new : Incoming) (piece : List ℕ) (used : ℕ) → Grows old new piece used → is_whole new.stage ≡ true
    → Continues old.start (bytes_of old ++ piece) (new.body.items ∷ []) (new.start + length (bytes_of new)) (drop used piece)
continues_whole old new piece used grows h more =
    let rest : List ℕ = drop used piece ++ more in
    let bytes_are : (bytes_of old ++ piece) ++ more ≡ bytes_of new ++ rest = ap (λ bs. bs ++ more) (grown_bytes old new piece used grows) ∙ append_assoc (bytes_of new) (drop used piece) more in
    let found : message new.start (bytes_of new ++ rest) ≡ Some (new.body.items, rest) = message_whole new.start new.header.items new.body.items rest (at_whole new.stage new.start new.header.items new.body.items grows.read h) in
    let size : length (bytes_of new ++ rest) - length rest ≡ length (bytes_of new) = omega (arith, length-append (bytes_of new) rest) in
    ap (λ s. split s ((bytes_of old ++ piece) ++ more)) (sym grows.start) ∙ ap (split new.start) bytes_are ∙ split_message new.start (bytes_of new ++ rest) new.body.items rest found ∙ ap (λ n. with_body new.body.items (split (new.start + n) rest)) size

pub waits : (s : Stage) → is_whole s ≡ false → failure s ≡ None → is_waiting s ≡ true
waits (stage.Header line given) h k = refl
waits (stage.Content missing) h k = refl
waits stage.Whole h k = cc
waits (stage.Failed fault) h k = cc

nothing_left : (s : Stage) (used : ℕ) (piece : List ℕ) → is_whole s ≡ false → (used < length piece → is_waiting s ≡ false) → failure s ≡ None → drop used piece ≡ []
nothing_left s used piece h all sound = ⊎_elim (λ left. let no = all left in let yes = waits s h sound in cc) (λ done. drop_of_length-le piece done) (cases_lt used (length piece))

-- a message that is not whole, with nothing left of the piece but behind a fault
pub reads_on : (old new : Incoming) (piece : List ℕ) (used : ℕ) → Grows old new piece used → is_whole new.stage ≡ false → (used < length piece → is_waiting new.stage ≡ false) → ReadsMessages old.start (bytes_of old ++ piece) [] new
reads_on old new piece used grows h all = record {
  dropped = drop used piece;
  goes_on = λ more. ap (λ s. split s ((bytes_of old ++ piece) ++ more)) (sym grows.start) ∙ ap (λ bs. split new.start (bs ++ more)) (grown_bytes old new piece used grows);
  none_dropped = λ sound. nothing_left new.stage used piece h all sound;
  read = grows.read;
  unfinished = h;
  end = omega (arith, grown_size old new piece used grows, length-append (bytes_of old) piece, grows.within, grows.start);
}

-- a whole message, and then others
pub reads_more : (old mid new : Incoming) (piece : List ℕ) (used : ℕ) (bodies : List (List ℕ)) → Grows old mid piece used → is_whole mid.stage ≡ true → ReadsMessages (mid.start + length (bytes_of mid)) (drop used piece) bodies new → ReadsMessages old.start (bytes_of old ++ piece) (mid.body.items ∷ bodies) new
reads_more old mid new piece used bodies grows h next = record {
  dropped = next.dropped;
  goes_on = continues_on old.start (mid.start + length (bytes_of mid)) new.start (bytes_of old ++ piece) (drop used piece) (bytes_of new ++ next.dropped) (mid.body.items ∷ []) bodies (continues_whole old mid piece used grows h) next.goes_on;
  none_dropped = next.none_dropped;
  read = next.read;
  unfinished = next.unfinished;
  end = omega (arith, next.end, grown_size old mid piece used grows, length-append (bytes_of old) piece, length-drop used piece, grows.within, grows.start);
}

pub reads_behind : (start at : ℕ) (bytes rest : List ℕ) (bodies more_bodies : List (List ℕ)) (m : Incoming) → Continues start bytes bodies at rest → at + length rest ≤ start + length bytes → ReadsMessages at rest more_bodies m
    → ReadsMessages start bytes (bodies ++ more_bodies) m
reads_behind start at bytes rest bodies more_bodies m first h next = record {
  dropped = next.dropped;
  goes_on = continues_on start at m.start bytes rest (bytes_of m ++ next.dropped) bodies more_bodies first next.goes_on;
  none_dropped = next.none_dropped;
  read = next.read;
  unfinished = next.unfinished;
  end = let e = next.end in omega arith;
}

-- a message of which no byte is there, at the head of the rest
pub record StandsAt (start : ℕ) (bytes : List ℕ) (bodies : List (List ℕ)) (used : ℕ) (m : Incoming) : Type 0 where
  pub goes : Continues start bytes bodies m.start (drop used bytes)
  pub empty : bytes_of m ≡ []
  pub read : IsRead m
  pub waiting : is_waiting m.stage ≡ true
  pub at : m.start ≡ start + used
  pub within : used ≤ length bytes

waits_no_whole : (s : Stage) → is_waiting s ≡ true → is_whole s ≡ false
waits_no_whole (stage.Header line given) h = refl
waits_no_whole (stage.Content missing) h = refl
waits_no_whole stage.Whole h = cc
waits_no_whole (stage.Failed fault) h = cc

-- where the bytes end
pub stands_end : (start : ℕ) (bytes : List ℕ) (bodies : List (List ℕ)) (used : ℕ) (m : Incoming) → StandsAt start bytes bodies used m → length bytes ≤ used → ReadsMessages start bytes bodies m
stands_end start bytes bodies used m stands done = record {
  dropped = [];
  goes_on = λ more. stands.goes more ∙ ap (λ bs. with_bodies bodies (split m.start (bs ++ more))) (drop_of_length-le bytes done ∙ sym (append-nil (bytes_of m) ∙ stands.empty));
  none_dropped = λ sound. refl;
  read = stands.read;
  unfinished = waits_no_whole m.stage stands.waiting;
  end = omega (arith, ap length stands.empty, stands.at, stands.within);
}

rest_size : (start used : ℕ) (bytes : List ℕ) (at : ℕ) → at ≡ start + used → used ≤ length bytes → at + length (drop used bytes) ≤ start + length bytes
rest_size start used bytes at e h = omega (arith, length-drop used bytes)

-- where it does not become whole
pub stands_stop : (start : ℕ) (bytes : List ℕ) (bodies : List (List ℕ)) (used n : ℕ) (old new : Incoming) (rest : List ℕ) → StandsAt start bytes bodies used old → rest ≡ drop used bytes → Grows old new rest n → is_whole new.stage ≡ false
    → (n < length rest → is_waiting new.stage ≡ false) → ReadsMessages start bytes bodies new
stands_stop start bytes bodies used n old new rest stands is grows h all =
    let here : ReadsMessages old.start rest [] new = subst (λ bs. ReadsMessages old.start (bs ++ rest) [] new) stands.empty (reads_on old new rest n grows h all) in
    let goes : Continues start bytes bodies old.start rest = subst (λ bs. Continues start bytes bodies old.start bs) (sym is) stands.goes in
    let size : old.start + length rest ≤ start + length bytes = subst (λ bs. old.start + length bs ≤ start + length bytes) (sym is) (rest_size start used bytes old.start stands.at stands.within) in
    subst (λ bs. ReadsMessages start bytes bs new) (append-nil bodies) (reads_behind start old.start bytes rest bodies [] new goes size here)

-- where it does
pub stands_more : (start : ℕ) (bytes : List ℕ) (bodies : List (List ℕ)) (used n : ℕ) (old mid new : Incoming) (rest : List ℕ) → StandsAt start bytes bodies used old → rest ≡ drop used bytes → Grows old mid rest n → is_whole mid.stage ≡ true
    → new.start ≡ mid.start + length (bytes_of mid) → bytes_of new ≡ [] → IsRead new → is_waiting new.stage ≡ true → StandsAt start bytes (bodies ++ mid.body.items ∷ []) (used + n) new
stands_more start bytes bodies used n old mid new rest stands is grows h start_is empty read waiting =
    let here : Continues old.start rest (mid.body.items ∷ []) new.start (drop n rest) =
    subst (λ s. Continues old.start rest (mid.body.items ∷ []) s (drop n rest)) (sym start_is) (subst (λ bs. Continues old.start (bs ++ rest) (mid.body.items ∷ []) (mid.start + length (bytes_of mid)) (drop n rest)) stands.empty (continues_whole old mid rest n grows h)) in
    let goes : Continues start bytes bodies old.start rest = subst (λ bs. Continues start bytes bodies old.start bs) (sym is) stands.goes in
    let left : drop n rest ≡ drop (used + n) bytes = ap (drop n) is ∙ drop-drop n used bytes in
    let size : length (bytes_of mid) ≡ n = grown_size old mid rest n grows ∙ ap (λ bs. length bs + n) stands.empty ∙ omega arith in
    record {
      goes = subst (λ bs. Continues start bytes (bodies ++ mid.body.items ∷ []) new.start bs) left (continues_on start old.start new.start bytes rest (drop n rest) bodies (mid.body.items ∷ []) goes here);
      empty = empty;
      read = read;
      waiting = waiting;
      at = omega (arith, start_is, size, grows.start, stands.at);
      within = omega (arith, grows.within, ap length is, length-drop used bytes, stands.within);
    }
