-- That a desk is as calls make it is one fact, with one proof at most, so that a struct can keep it beside the desk.
use Rattle.std.specs.Prelude.{[], ◌∷◌, ℕ}
use Rattle.std.specs.Coded.{×_prop, Unit-prop}
use Rattle.std.proofs.Props.{props}
use Rattle.line.specs.Line.{Line}
use Rattle.line.specs.Sound.{Distinct, Below}

pub Distinct-prop : {A : Type 0} (l : Line A) → IsProp (Distinct l)
Distinct-prop [] = Unit-prop
Distinct-prop (q ∷ l) = ×_prop (Prim.hlevel props) (Distinct-prop l)

pub Below-prop : {A : Type 0} (n : ℕ) (l : Line A) → IsProp (Below n l)
Below-prop n [] = Unit-prop
Below-prop n (q ∷ l) = ×_prop (Prim.hlevel props) (Below-prop n l)

pub ruleset good_props = (props, Distinct-prop, Below-prop)
