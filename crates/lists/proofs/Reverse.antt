-- Laws of reversing.
use mathlib.Core.List.{List, [], ◌∷◌, map, map-append, reverse, reverse-cons}
use mathlib.Core.Path.{◌≡◌, refl, sym}

pub map-reverse : {A B : Type 0} (f : A → B) (xs : List A) → map f (reverse xs) ≡ reverse (map f xs)
map-reverse f [] = refl
map-reverse f (x ∷ xs) = rw (reverse-cons x xs, map-append, map-reverse f xs) (sym (reverse-cons (f x) (map f xs)))
