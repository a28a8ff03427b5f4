-- How the input was cut plays no part: pieces print what the joined text prints at once. Assumes nothing.
use Prim.Native.Nat.{ℕ}
use mathlib.Core.Path.{◌≡◌, refl, sym, ap, ◌∙◌}
use mathlib.Core.List.{List, [], ◌∷◌, ◌++◌, append_assoc}
use Rattle.wire.proofs.Cases.{by}
use Rattle.order_run.specs.Turns.{is_over}
use Rattle.order_run.specs.Feed.{St, Did, behind, after_char, after, finished, in_pieces, joined}
use Rattle.order_run.proofs.Characters.{after_over}

-- two pieces, one behind the other
pub after-append : (a b : List ℕ) (s : St) → after s (a ++ b) ≡ behind (after s a).text (after (after s a).st b)
unfolding after
after-append [] b s = refl
after-append (c ∷ a) b s =
    by (is_over s.phase)
    (λ e. rw e (sym (ap (behind []) (after_over s b e))))
    (λ e. rw e
    (ap (behind (after_char s c).text) (after-append a b (after_char s c).st)
    ∙ ap (λ (x : List ℕ). record { st = (after (after (after_char s c).st a).st b).st; text = x })
    (sym (append_assoc (after_char s c).text (after (after_char s c).st a).text (after (after (after_char s c).st a).st b).text))))

-- what a whole text prints from a run on
unfoldable pub total : St → List ℕ → List ℕ
total s t = (after s t).text ++ (finished (after s t).st).text

pub total-append : (a b : List ℕ) (s : St) → total s (a ++ b) ≡ (after s a).text ++ total (after s a).st b
unfolding total
total-append a b s =
    ap (λ (x : Did). x.text ++ (finished x.st).text) (after-append a b s)
    ∙ append_assoc (after s a).text (after (after s a).st b).text (finished (after (after s a).st b).st).text

pub pieces : (ps : List (List ℕ)) (s : St) → in_pieces s ps ≡ total s (joined ps)
unfolding in_pieces total after
pieces [] s = refl
pieces (p ∷ ps) s =
    ap (λ (x : List ℕ). (after s p).text ++ x) (pieces ps (after s p).st) ∙ sym (total-append p (joined ps) s)
