-- The examples hold: those of lower crates as they are proved there, and the desk's runs as Computed has them. Assumes nothing.
use mathlib.Core.Path.{◌≡◌, refl, sym, ap, ap₂, ◌∙◌}
use mathlib.Core.List.{List, [], ◌∷◌, ◌++◌, map, map-append}
use Rattle.services.specs.Examples as frames
use Rattle.judge.specs.Examples as replies
use Rattle.reads.specs.Examples as reads
use Rattle.promises.specs.Runs.{runs, listings}
use Rattle.promises.specs.Examples.{Shown, frame, reply, run, listing, Example, shown, examples, ExamplesHold}
use Rattle.promises.specs.Examples as shows
use Rattle.promises.proofs.Computed.{firsts, seconds, runs_hold, listings_hold}

-- ---- one list

module _ {A : Type 0} (f : A → Shown) where
  firsts_shown : (l : List (A × A)) → firsts (map (shown f) l) ≡ map f (firsts l)
  firsts_shown [] = refl
  firsts_shown (e ∷ l) = ap {B = List Shown} (λ r. f e.0 ∷ r) (firsts_shown l)

  seconds_shown : (l : List (A × A)) → seconds (map (shown f) l) ≡ map f (seconds l)
  seconds_shown [] = refl
  seconds_shown (e ∷ l) = ap {B = List Shown} (λ r. f e.1 ∷ r) (seconds_shown l)

  shown_hold : (l : List (A × A)) → firsts l ≡ seconds l → firsts (map (shown f) l) ≡ seconds (map (shown f) l)
  shown_hold l h = firsts_shown l ∙ ap (map f) h ∙ sym (seconds_shown l)

-- a list that holds
abbrev Held : Type 0
Held = (l : List Example) × (firsts l ≡ seconds l)

abbrev held : {A : Type 0} → (A → Shown) → (l : List (A × A)) → firsts l ≡ seconds l → Held
held f l h = (map (shown f) l, shown_hold f l h)

abbrev joined : Held → Held → Held
joined a b = (
  a.0 ++ b.0,
  map-append (λ (e : Example). e.0) a.0 b.0
      ∙ ap₂ (λ (x y : List Shown). x ++ y) a.1 b.1
      ∙ sym (map-append (λ (e : Example). e.1) a.0 b.0),
)

pub examples_hold : ExamplesHold
unfolding examples
examples_hold =
    let requests = held frame frames.examples frames.examples_hold in
    let judged = held reply replies.examples replies.examples_hold in
    let values = held shows.read reads.examples reads.examples_hold in
    let told = held run runs runs_hold in
    (joined (joined (joined (joined requests judged) values) told) (held listing listings listings_hold)).1
