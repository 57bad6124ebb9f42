-- Lists: properties of their elements, and maps, look-ups and joins.
use Rattle.std.proofs.Common.{◌≡◌, ◌<◌, ◌≤◌, ℕ, zero, suc, ◌+◌, ◌==◌, ◌&&◌, Bool, true, false, cond, List, [], ◌∷◌, ◌++◌, Option, Some, None, length, map, filter, flat_map, take, drop, zip, nat_lt, refl, sym, ap, ap₂, subst, ◌∙◌, arith, append-nil, append_assoc, option_to_list, slice_index_or, unwrap_or, add-one}
use Rattle.std.specs.List.{All, AllByRecursion, AllZip, cons_option, enumerate_from, filter_map, join_by, list_any, repeat, slice_get}
use Rattle.std.specs.Prelude.{if◌then◌else◌, option_map, slice_set}
use Rattle.std.proofs.lemmas.Bool.{eq-eqb, ne_eqb, or_parts}
use Rattle.std.proofs.lemmas.Grind.{flat_map-append}
use Rattle.std.proofs.Math.Seq.{drop-cons}
use Rattle.std.proofs.lemmas.List.{length-drop, length-take, length-take-le, map-append, map-id, take_all, take_min, take_more}
use Rattle.std.proofs.lemmas.List.Elements.{All-append, All-cons, All-head, All-nil, All-tail, All-weaker, filter-append}
use Rattle.std.proofs.lemmas.List.Folds.{flat_map-map}
use Rattle.std.proofs.lemmas.List.FromFn.{get_or-enumerate_from, length-enumerate_from}

-- a property of the elements of each part holds for the elements of all parts
pub All-flat_map : {X Y : Type 0} (P : Y → Type 0) (f : X → List Y) (xs : List X) → All (λ x. All P (f x)) xs → All P (flat_map f xs)
All-flat_map P f [] each = All-nil P
All-flat_map P f (x ∷ xs) each = search (arith, All-append, flat_map, All-head, All-tail, All-flat_map P f xs (All-tail (λ x. All P (f x)) x xs each))

-- a property of every value holds for each element
pub All-every : {X : Type 0} (P : X → Type 0) (xs : List X) → ((x : X) → P x) → All P xs
All-every P xs every k default below = every (slice_index_or xs k default)

-- if no element passes a test, the test fails for each
pub All-none : {X : Type 0} (p : X → Bool) (xs : List X) → list_any p xs ≡ false → All (λ x. p x ≡ false) xs
All-none p [] none = All-nil (λ x. p x ≡ false)
All-none p (x ∷ xs) none =
    let both = or_parts (p x) (list_any p xs) none in
    All-cons (λ x. p x ≡ false) x xs both.0 (All-none p xs both.1)

-- an element, or a default that has the property too
pub At-or : {X : Type 0} (P : X → Type 0) (xs : List X) (k : ℕ) (default : X) → All P xs → P default → P (slice_index_or xs k default)
At-or P [] k default each other = other
At-or P (x ∷ xs) zero default each other = All-head P x xs each
At-or P (x ∷ xs) (suc k) default each other = At-or P xs k default (All-tail P x xs each) other

-- a property of the elements of each part, and of the separator, holds for the elements of the joined parts
pub All-join_by : {X Y : Type 0} (P : Y → Type 0) (f : X → List Y) (separator : List Y) (xs : List X) → All P separator → All (λ x. All P (f x)) xs → All P (join_by f separator xs)
All-join_by P f separator [] between each = All-nil P
All-join_by P f separator (x ∷ xs) between each =
    All-append P (f x) (flat_map (λ y. separator ++ f y) xs) (All-head (λ x. All P (f x)) x xs each)
    (All-flat_map P (λ y. separator ++ f y) xs
    (All-weaker (λ x. All P (f x)) (λ x. All P (separator ++ f x)) (λ y own. All-append P separator (f y) between own) xs (All-tail (λ x. All P (f x)) x xs each)))

-- if all values that h gives have a property, so has the value that h gives for an element
pub All-given : {X Y : Type 0} (P : Y → Type 0) (h : X → Option Y) (xs : List X) → All P (filter_map h xs) → All (λ x. (y : Y) → h x ≡ Some y → P y) xs
All-given P h [] each = All-nil (λ x. (y : _) → h x ≡ Some y → P y)
All-given {X} {Y} P h (x ∷ xs) each = by_option (h x) refl each (All-given P h xs)
  where
    by_option : (o : Option Y) → h x ≡ o → All P (cons_option o (filter_map h xs)) → (All P (filter_map h xs) → All (λ x. (y : Y) → h x ≡ Some y → P y) xs)
        → All (λ x. (y : Y) → h x ≡ Some y → P y) (x ∷ xs)
    by_option None none each rest =
        All-cons (λ x. (y : Y) → h x ≡ Some y → P y) x xs (λ y given. absurd (cc (none, given))) (rest each)
    by_option (Some z) given each rest =
        All-cons (λ x. (y : Y) → h x ≡ Some y → P y) x xs
        (λ y same. let e : z ≡ y = cc (given, same) in subst P e (All-head P z (filter_map h xs) each))
        (rest (All-tail P z (filter_map h xs) each))

-- if the value that h gives for each element has a property, so have all values that h gives
pub All-found : {X Y : Type 0} (P : Y → Type 0) (h : X → Option Y) (xs : List X) → All (λ x. (y : Y) → h x ≡ Some y → P y) xs → All P (filter_map h xs)
All-found P h [] each = All-nil P
All-found {X} {Y} P h (x ∷ xs) each = grind (arith, by_option, All-head, All-tail, All-found P h xs (All-tail (λ (z : X). (y : Y) → h z ≡ Some y → P y) x xs each))
  where
    by_option : (found : Option Y) → ((y : Y) → found ≡ Some y → P y) → All P (filter_map h xs) → All P (cons_option found (filter_map h xs))
    by_option None own rest = rest
    by_option (Some y) own rest = All-cons P y (filter_map h xs) (own y refl) rest

-- a property of each element holds for the element at a position
pub All-at : {X : Type 0} (P : X → Type 0) (xs : List X) (i : ℕ) (x : X) → All P xs → slice_get xs i ≡ Some x → P x
All-at P [] i x each found = absurd (cc found)
All-at P (y ∷ xs) zero x each found = grind (arith, All-head)
All-at P (y ∷ xs) (suc i) x each found = All-at P xs i x (All-tail P y xs each) found

-- a property of an optional first element and of others holds for the others
pub All-others : {X : Type 0} (P : X → Type 0) (first : Option X) (xs : List X) → All P (option_to_list first ++ xs) → All P xs
All-others P None xs each = each
All-others P (Some x) xs each = All-tail P x xs each

-- a property of all images under a function holds for the image of each element
pub All-of_map : {X Y : Type 0} (P : Y → Type 0) (f : X → Y) (xs : List X) → All P (map f xs) → All (λ x. P (f x)) xs
All-of_map P f [] each = All-nil (λ x. P (f x))
All-of_map P f (x ∷ xs) each = grind (arith, All-cons, All-head, map, All-tail, All-of_map P f xs (All-tail P (f x) (map f xs) each))

-- if two maps of a list are the same, the functions agree on each element
pub All-same_map : {X Y : Type 0} (f g : X → Y) (xs : List X) → map f xs ≡ map g xs → All (λ x. f x ≡ g x) xs
All-same_map f g [] same = All-nil (λ x. f x ≡ g x)
All-same_map f g (x ∷ xs) same =
    let first : f x ≡ g x = cc same in
    let rest : map f xs ≡ map g xs = cc same in
    All-cons (λ x. f x ≡ g x) x xs first (All-same_map f g xs rest)

-- the image of the element at a position, or a default
pub index-map : {A B : Type 0} (f : A → B) (xs : List A) (k : ℕ) (default : B) → slice_index_or (map f xs) k default ≡ unwrap_or (option_map f (slice_get xs k)) default
index-map f [] k default = refl
index-map f (x ∷ xs) zero default = refl
index-map f (x ∷ xs) (suc k) default = index-map f xs k default

-- a list of one element
pub only_one : {A B : Type 0} (f : A → B) (xs : List A) (x : A) → length xs ≡ 1 → x ≡ slice_index_or xs 0 x → map f xs ≡ f x ∷ []
only_one f [] x one is = absurd (omega (arith, one))
only_one {A} {B} f (y ∷ []) x one is = ap (λ (z : A). f z ∷ []) (sym is)
only_one f (y ∷ z ∷ xs) x one is = absurd (omega (arith, one))

-- ---- properties by recursion on the list

-- the elements that a test keeps have the property
pub every-filter : {X : Type 0} (P : X → Type 0) (test : X → Bool) (xs : List X) → AllByRecursion P xs → AllByRecursion P (filter test xs)
every-filter P test [] each = tt
every-filter {X} P test (x ∷ xs) each = grind (arith, every-filter P test xs each.1)

-- the elements that a test keeps have the property and pass the test
pub every_kept : {X : Type 0} (P : X → Type 0) (test : X → Bool) (xs : List X) → AllByRecursion P xs → AllByRecursion (λ (x : X). P x × (test x ≡ true)) (filter test xs)
every_kept P test [] each = tt
every_kept {X} P test (x ∷ xs) each = grind (arith, every_kept P test xs each.1)

-- the elements of both lists have the property
pub every-append : {X : Type 0} (P : X → Type 0) (xs ys : List X) → AllByRecursion P xs → AllByRecursion P ys → AllByRecursion P (xs ++ ys)
every-append P [] ys each others = others
every-append P (x ∷ xs) ys each others = (each.0, every-append P xs ys each.1 others)

-- the elements of the first list have the property, and so have those of the second
pub every-parts : {X : Type 0} (P : X → Type 0) (xs ys : List X) → AllByRecursion P (xs ++ ys) → AllByRecursion P xs × AllByRecursion P ys
every-parts P [] ys each = (tt, each)
every-parts P (x ∷ xs) ys each = grind (arith, every-parts P xs ys each.1)

-- the elements have each weaker property
pub every-weaker : {X : Type 0} (P Q : X → Type 0) (xs : List X) → ((x : X) → P x → Q x) → AllByRecursion P xs → AllByRecursion Q xs
every-weaker P Q [] weaker each = tt
every-weaker P Q (x ∷ xs) weaker each = (weaker x each.0, every-weaker P Q xs weaker each.1)

-- a property of every value holds for each element
pub every-always : {X : Type 0} (P : X → Type 0) (xs : List X) → ((x : X) → P x) → AllByRecursion P xs
every-always P [] always = tt
every-always P (x ∷ xs) always = (always x, every-always P xs always)

-- the elements have both properties
pub every-both : {X : Type 0} (P Q : X → Type 0) (xs : List X) → AllByRecursion P xs → AllByRecursion Q xs → AllByRecursion (λ (x : X). P x × Q x) xs
every-both P Q [] each others = tt
every-both P Q (x ∷ xs) each others = ((each.0, others.0), every-both P Q xs each.1 others.1)

-- a property of the elements of each part holds for the elements of all parts
pub every-flat_map : {X Y : Type 0} (P : X → Type 0) (Q : Y → Type 0) (f : X → List Y) (xs : List X) → ((x : X) → P x → AllByRecursion Q (f x)) → AllByRecursion P xs → AllByRecursion Q (flat_map f xs)
every-flat_map P Q f [] gives each = tt
every-flat_map P Q f (x ∷ xs) gives each = grind (arith, every-append, flat_map, every-flat_map P Q f xs gives each.1)

-- a property of each element holds for each element with its position
pub every-places : {X : Type 0} (P : X → Type 0) (n : ℕ) (xs : List X) → AllByRecursion P xs → AllByRecursion (λ (p : ℕ × X). P p.1) (enumerate_from n xs)
every-places P n [] each = tt
every-places P n (x ∷ xs) each = (each.0, every-places P (n + 1) xs each.1)

-- a list with an element isn't empty
pub every_shows_one : {X : Type 0} (xs : List X) → AllByRecursion (λ (x : X). 0 < length xs) xs
every_shows_one {X} [] = tt
every_shows_one {X} (x ∷ xs) = grind (arith, every-always, length)

-- a filter keeps all elements if each passes
pub filter_all : {X : Type 0} (test : X → Bool) (xs : List X) → AllByRecursion (λ (x : X). test x ≡ true) xs → filter test xs ≡ xs
filter_all test [] each = refl
filter_all {X} test (x ∷ xs) each = grind (arith, filter, filter_all test xs each.1)

-- a property of the image of each element holds for all images
pub every-map : {X Y : Type 0} (P : Y → Type 0) (f : X → Y) (xs : List X) → AllByRecursion (λ (x : X). P (f x)) xs → AllByRecursion P (map f xs)
every-map P f [] each = tt
every-map P f (x ∷ xs) each = (each.0, every-map P f xs each.1)

-- a property of the elements of all parts holds for the elements of each part
pub every-each_part : {X Y : Type 0} (Q : Y → Type 0) (f : X → List Y) (xs : List X) → AllByRecursion Q (flat_map f xs) → AllByRecursion (λ (x : X). AllByRecursion Q (f x)) xs
every-each_part Q f [] each = tt
every-each_part Q f (x ∷ xs) each = let parts = every-parts Q (f x) (flat_map f xs) each in (parts.0, every-each_part Q f xs parts.1)

-- ---- prefixes and suffixes

-- the shorter one of two prefixes of a list is a prefix of the other
pub front_of_front : {A : Type 0} (xs ys zs ws : List A) → xs ++ ys ≡ zs ++ ws → length xs ≤ length zs → (more : List A) × (zs ≡ xs ++ more) × (ys ≡ more ++ ws)
front_of_front [] ys zs ws same shorter = (zs, refl, same)
front_of_front (x ∷ xs) ys [] ws same shorter = absurd (omega (arith, shorter))
front_of_front (x ∷ xs) ys (z ∷ zs) ws same shorter =
    let first : x ≡ z = cc same in
    let rest : xs ++ ys ≡ zs ++ ws = cc same in
    let more = front_of_front xs ys zs ws rest (omega (arith, shorter)) in
    (more.0, ap₂ (λ c cs. c ∷ cs) (sym first) more.1, more.2)

-- a prefix is the prefix of its own length
pub take-front : {A : Type 0} (n : ℕ) (xs : List A) → take (length (take n xs)) xs ≡ take n xs
take-front n xs = ap (λ k. take k xs) (length-take n xs) ∙ take_min n xs

-- one more element is dropped
pub drop_next : {A : Type 0} (n : ℕ) (xs : List A) (b : A) (rest : List A) → drop n xs ≡ b ∷ rest → drop (n + 1) xs ≡ rest
drop_next n xs b rest is =
    let next : n + 1 ≡ suc n = omega arith in
    let both : slice_index_or xs n b ∷ drop (suc n) xs ≡ b ∷ rest = sym (drop-cons xs n b (omega (arith, length-drop n xs, ap length is))) ∙ is in
    let after : drop (suc n) xs ≡ rest = cc both in
    ap (λ k. drop k xs) next ∙ after

-- the invariant of a loop that pushes images, after one more push
pub pushed : {A B : Type 0} (f : A → B) (done : List A) (x : A) (more : List A) (later all : List B) → more ≡ done ++ x ∷ [] → map f done ++ (f x ∷ later) ≡ all → map f more ++ later ≡ all
pushed f done x more later all pushes shows = grind (arith, map, map-append, append_assoc)

-- ---- two lists, element by element

-- the images of each element under two functions are related
pub AllZip-map : {X A B : Type 0} (R : A → B → Type 0) (f : X → A) (g : X → B) (xs : List X) → All (λ x. R (f x) (g x)) xs → AllZip R (map f xs) (map g xs)
AllZip-map R f g [] each = tt
AllZip-map R f g (x ∷ xs) each =
    (All-head (λ x. R (f x) (g x)) x xs each, AllZip-map R f g xs (All-tail (λ x. R (f x) (g x)) x xs each))

-- the images under one function of two images of each element are related
pub AllZip-map_map : {X Y A : Type 0} (R : A → A → Type 0) (f : Y → A) (g h : X → Y) (xs : List X) → ((x : X) → R (f (g x)) (f (h x))) → AllZip R (map f (map g xs)) (map f (map h xs))
AllZip-map_map R f g h [] each = tt
AllZip-map_map R f g h (x ∷ xs) each = (each x, AllZip-map_map R f g h xs each)

-- the elements of two pairs of lists, joined, are related
pub AllZip-append : {A B : Type 0} (R : A → B → Type 0) (xs xs' : List A) (ys ys' : List B) → AllZip R xs ys → AllZip R xs' ys' → AllZip R (xs ++ xs') (ys ++ ys')
AllZip-append R [] xs' [] ys' front back = back
AllZip-append R [] xs' (y ∷ ys) ys' front back = absurd front
AllZip-append R (x ∷ xs) xs' [] ys' front back = absurd front
AllZip-append R (x ∷ xs) xs' (y ∷ ys) ys' front back = (front.0, AllZip-append R xs xs' ys ys' front.1 back)

-- the elements of the parts of two functions, joined, are related
pub AllZip-flat_map : {X A B : Type 0} (R : A → B → Type 0) (f : X → List A) (g : X → List B) (xs : List X) → All (λ x. AllZip R (f x) (g x)) xs → AllZip R (flat_map f xs) (flat_map g xs)
AllZip-flat_map R f g [] each = tt
AllZip-flat_map R f g (x ∷ xs) each = grind (arith, AllZip-append, flat_map, All-head, All-tail, AllZip-flat_map R f g xs (All-tail (λ x. AllZip R (f x) (g x)) x xs each))

-- the elements of parts with separators are related
pub AllZip-join_by : {X A B : Type 0} (R : A → B → Type 0) (f : X → List A) (g : X → List B) (separator : List A) (other : List B) (xs : List X) → AllZip R separator other
    → All (λ x. AllZip R (f x) (g x)) xs → AllZip R (join_by f separator xs) (join_by g other xs)
AllZip-join_by R f g separator other [] between each = tt
AllZip-join_by R f g separator other (x ∷ xs) between each =
    AllZip-append R (f x) (flat_map (λ y. separator ++ f y) xs) (g x) (flat_map (λ y. other ++ g y) xs) (All-head (λ x. AllZip R (f x) (g x)) x xs each)
    (AllZip-flat_map R (λ y. separator ++ f y) (λ y. other ++ g y) xs
    (All-weaker (λ x. AllZip R (f x) (g x)) (λ x. AllZip R (separator ++ f x) (other ++ g x)) (λ x own. AllZip-append R separator (f x) other (g x) between own) xs
    (All-tail (λ x. AllZip R (f x) (g x)) x xs each)))

-- the elements at a position, or their defaults, are related
pub At-or-both : {A B : Type 0} (R : A → B → Type 0) (xs : List A) (ys : List B) (k : ℕ) (x : A) (y : B) → AllZip R xs ys → R x y → R (slice_index_or xs k x) (slice_index_or ys k y)
At-or-both R [] [] k x y each default = default
At-or-both R [] (b ∷ ys) k x y each default = absurd each
At-or-both R (a ∷ xs) [] k x y each default = absurd each
At-or-both R (a ∷ xs) (b ∷ ys) zero x y each default = each.0
At-or-both R (a ∷ xs) (b ∷ ys) (suc k) x y each default = At-or-both R xs ys k x y each.1 default

-- the images of each pair of elements are related
pub AllZip-map_zip : {A B X Y : Type 0} (R : A → B → Type 0) (Q : X → Y → Type 0) (f : A → X) (g : A × B → Y) → ((x : A) (y : B) → R x y → Q (f x) (g (x, y))) → (xs : List A) (ys : List B)
    → AllZip R xs ys → AllZip Q (map f xs) (map g (zip xs ys))
AllZip-map_zip R Q f g gives [] [] each = tt
AllZip-map_zip R Q f g gives [] (y ∷ ys) each = absurd each
AllZip-map_zip R Q f g gives (x ∷ xs) [] each = absurd each
AllZip-map_zip R Q f g gives (x ∷ xs) (y ∷ ys) each = (gives x y each.0, AllZip-map_zip R Q f g gives xs ys each.1)

-- a property of the first of each pair holds for each element of the first list
pub every-first : {A B : Type 0} (P : A → Type 0) (xs : List A) (ys : List B) → AllZip (λ x y. P x) xs ys → AllByRecursion P xs
every-first P [] ys each = tt
every-first P (x ∷ xs) [] each = absurd each
every-first P (x ∷ xs) (y ∷ ys) each = (each.0, every-first P xs ys each.1)

-- a property of the second of each pair holds for each element of the second list
pub every-second : {A B : Type 0} (Q : B → Type 0) (xs : List A) (ys : List B) → AllZip (λ x y. Q y) xs ys → AllByRecursion Q ys
every-second Q [] [] each = tt
every-second Q [] (y ∷ ys) each = absurd each
every-second Q (x ∷ xs) [] each = absurd each
every-second Q (x ∷ xs) (y ∷ ys) each = (each.0, every-second Q xs ys each.1)

-- the elements of two prefixes of the same length are related
pub AllZip-take : {A B : Type 0} (R : A → B → Type 0) (n : ℕ) (xs : List A) (ys : List B) → AllZip R xs ys → AllZip R (take n xs) (take n ys)
AllZip-take R zero xs ys each = tt
AllZip-take R (suc n) [] [] each = tt
AllZip-take R (suc n) [] (y ∷ ys) each = absurd each
AllZip-take R (suc n) (x ∷ xs) [] each = absurd each
AllZip-take R (suc n) (x ∷ xs) (y ∷ ys) each = (each.0, AllZip-take R n xs ys each.1)

-- a list zipped with an empty one is empty
pub zip-nil : {X Y : Type 0} (xs : List X) → ◌≡◌ {A = List (X × Y)} (zip xs []) []
zip-nil [] = refl
zip-nil (x ∷ xs) = refl

-- a function has the same images for two lists if it has for each pair
pub same_map : {A B : Type 0} (f : A → B) (xs ys : List A) → AllZip (λ x y. f y ≡ f x) xs ys → map f ys ≡ map f xs
same_map f [] [] each = refl
same_map f [] (y ∷ ys) each = absurd each
same_map f (x ∷ xs) [] each = absurd each
same_map f (x ∷ xs) (y ∷ ys) each = grind (arith, same_map f xs ys each.1)

-- ---- joins and repetitions with one part more

-- one more repetition, at the end
pub repeat_more : {A : Type 0} (n : ℕ) (xs : List A) → repeat (n + 1) xs ≡ repeat n xs ++ xs
repeat_more n xs = ap (λ k. repeat k xs) (add-one n) ∙ after n
  where
    after : (n : ℕ) → repeat (suc n) xs ≡ repeat n xs ++ xs
    after zero = append-nil xs
    after (suc n) = ap (λ ys. xs ++ ys) (after n) ∙ sym (append_assoc xs (repeat n xs) xs)

-- one more part at the end, after a separator unless it is the first
pub join_by_push : {X A : Type 0} (f : X → List A) (separator : List A) (xs : List X) (x : X)
    → join_by f separator (xs ++ x ∷ []) ≡ (join_by f separator xs ++ (if nat_lt 0 (length xs) then separator else [])) ++ f x
join_by_push f separator [] x = append-nil (f x)
join_by_push {X} {A} f separator (y ∷ ys) x = grind (arith, flat_map-append, append-nil, append_assoc)

-- a joined prefix with one more part
pub join_by_more : {X A : Type 0} (f : X → List A) (separator : List A) (xs : List X) (i : ℕ) (x : X) → i < length xs → x ≡ slice_index_or xs i x
    → join_by f separator (take (i + 1) xs) ≡ (join_by f separator (take i xs) ++ (if nat_lt 0 i then separator else [])) ++ f x
join_by_more f separator xs i x below is =
    let long : length (take i xs) ≡ i = length-take-le i xs (omega arith) in
    ap (join_by f separator) (take_more xs i x below ∙ ap (λ y. take i xs ++ y ∷ []) (sym is))
    ∙ join_by_push f separator (take i xs) x
    ∙ ap (λ n. (join_by f separator (take i xs) ++ (if nat_lt 0 n then separator else [])) ++ f x) long

-- a separator that may not be drawn, before a part that may be the first
pub between : {A : Type 0} (drawn later : Bool) (xs : List A) → (if drawn && later then xs else []) ≡ (if later then (if drawn then xs else []) else [])
between true true xs = refl
between true false xs = refl
between false true xs = refl
between false false xs = refl

-- ---- a text that is made part by part

-- one more part after a text that ends with the joined parts so far
pub joined_more : {X A : Type 0} (f : X → List A) (drawn : Bool) (separator : List A) (xs : List X) (i : ℕ) (x : X) (start text : List A) → i < length xs → x ≡ slice_index_or xs i x
    → text ≡ start ++ join_by f (if drawn then separator else []) (take i xs)
    → (text ++ (if drawn && nat_lt 0 i then separator else [])) ++ f x ≡ start ++ join_by f (if drawn then separator else []) (take (i + 1) xs)
joined_more {X} {A} f drawn separator xs i x start text below is made = grind (arith, join_by, take, nat_lt, between, append_assoc, join_by_more)

-- the text after the last part
pub joined_all : {X A : Type 0} (f : X → List A) (separator : List A) (xs : List X) (i : ℕ) (start text : List A) → length xs ≤ i
    → text ≡ start ++ join_by f separator (take i xs) → text ≡ start ++ join_by f separator xs
joined_all f separator xs i start text past made = grind (arith, join_by, take_all)

-- a join of the images of a list is a join by the composed function
pub join_by-map : {X Y A : Type 0} (f : Y → List A) (g : X → Y) (separator : List A) (xs : List X) → join_by f separator (map g xs) ≡ join_by (λ x. f (g x)) separator xs
join_by-map f g separator [] = refl
join_by-map f g separator (x ∷ xs) = grind (arith, flat_map-map)

-- ---- elements with their positions

-- one more element with its position
pub enumerated_more : {A B : Type 0} (f : ℕ × A → B) (xs : List A) (i : ℕ) (x : A) → i < length xs → x ≡ slice_index_or xs i x
    → map f (take (i + 1) (enumerate_from 0 xs)) ≡ map f (take i (enumerate_from 0 xs)) ++ f (i, x) ∷ []
enumerated_more f xs i x below is =
    let within : i < length (enumerate_from 0 xs) = omega (arith, length-enumerate_from 0 xs) in
    let moved : (0 + i, slice_index_or xs i x) ≡ (i, x) = let e : 0 + i ≡ i = omega arith in (λ k. (e k, sym is k)) in
    ap (map f) (take_more (enumerate_from 0 xs) i (i, x) within)
    ∙ map-append f (take i (enumerate_from 0 xs)) (slice_index_or (enumerate_from 0 xs) i (i, x) ∷ [])
    ∙ ap (λ p. map f (take i (enumerate_from 0 xs)) ++ f p ∷ []) (get_or-enumerate_from 0 xs i (i, x) below ∙ moved)

-- all elements with their positions
pub enumerated_all : {A B : Type 0} (f : ℕ × A → B) (xs : List A) (i : ℕ) → length xs ≤ i → map f (take i (enumerate_from 0 xs)) ≡ map f (enumerate_from 0 xs)
enumerated_all f xs i past = grind (arith, length-enumerate_from, take_all)

-- one more element with its position, if it passes a test
pub filtered_more : {A B : Type 0} (f : ℕ × A → B) (test : ℕ × A → Bool) (xs : List A) (i : ℕ) (x : A) → i < length xs → x ≡ slice_index_or xs i x
    → map f (filter test (take (i + 1) (enumerate_from 0 xs))) ≡ map f (filter test (take i (enumerate_from 0 xs))) ++ cond (test (i, x)) (f (i, x) ∷ []) []
filtered_more {A} {B} f test xs i x below is = grind (arith, map, filter, more, filter-append, take, enumerate_from, map-append)
  where
    more : take (i + 1) (enumerate_from 0 xs) ≡ take i (enumerate_from 0 xs) ++ (i, x) ∷ []
    more = sym (map-id (take (i + 1) (enumerate_from 0 xs))) ∙ enumerated_more (λ (p : ℕ × A). p) xs i x below is ∙ ap (λ (ps : List (ℕ × A)). ps ++ (i, x) ∷ []) (map-id (take i (enumerate_from 0 xs)))

-- all elements with their positions that pass a test
pub filtered_all : {A B : Type 0} (f : ℕ × A → B) (test : ℕ × A → Bool) (xs : List A) (i : ℕ) → length xs ≤ i
    → map f (filter test (take i (enumerate_from 0 xs))) ≡ map f (filter test (enumerate_from 0 xs))
filtered_all f test xs i past = grind (arith, length-enumerate_from, take_all)

-- functions of positions that agree from n on have the same images for a list that is counted from n on
pub map-places : {A X : Type 0} (f g : ℕ → X) (n : ℕ) (xs : List A) → ((i : ℕ) → n ≤ i → f i ≡ g i) → map (λ (p : ℕ × A). f p.0) (enumerate_from n xs) ≡ map (λ (p : ℕ × A). g p.0) (enumerate_from n xs)
map-places f g n [] same = refl
map-places f g n (x ∷ xs) same = grind (arith, map-places f g (n + 1) xs (λ i from. same i (omega arith)))

-- tests of positions that agree on the positions of a list keep the same elements
pub filter-places : {A : Type 0} (f g : ℕ → Bool) (n : ℕ) (xs : List A) → ((i : ℕ) → n ≤ i → i < n + length xs → f i ≡ g i)
    → filter (λ (p : ℕ × A). f p.0) (enumerate_from n xs) ≡ filter (λ (p : ℕ × A). g p.0) (enumerate_from n xs)
filter-places f g n [] same = refl
filter-places f g n (x ∷ xs) same = grind (arith, filter-places f g (n + 1) xs (λ i from below. same i (omega arith) (omega arith)))

-- the image of the position at an index
pub index-places : {A X : Type 0} (f : ℕ → X) (n : ℕ) (xs : List A) (i : ℕ) (default : X) → i < length xs → slice_index_or (map (λ (p : ℕ × A). f p.0) (enumerate_from n xs)) i default ≡ f (n + i)
index-places f n [] i default below = absurd (omega arith)
index-places f n (x ∷ xs) zero default below = ap f (omega arith)
index-places f n (x ∷ xs) (suc i) default below = grind (arith, index-places f (n + 1) xs i default (omega arith))

-- the images of positions with another value at an index
pub set-places : {A X : Type 0} (f : ℕ → X) (i : ℕ) (v : X) (n : ℕ) (xs : List A) → slice_set (map (λ (p : ℕ × A). f p.0) (enumerate_from n xs)) i v ≡ map (λ (p : ℕ × A). cond (n + i == p.0) v (f p.0)) (enumerate_from n xs)
set-places f i v n [] = refl
set-places f zero v n (x ∷ xs) =
    let first = sym (ap (λ (b : Bool). cond b v (f n)) (eq-eqb (n + 0) n (omega arith))) in
    let rest = map-places f (λ j. cond (n + 0 == j) v (f j)) (n + 1) xs (λ j from. sym (ap (λ (b : Bool). cond b v (f j)) (ne_eqb (n + 0) j (λ same. omega arith)))) in λ k. first k ∷ rest k
set-places f (suc i) v n (x ∷ xs) = grind (arith, ne_eqb, map-places, ℕ, set-places f i v (n + 1) xs)

-- as many elements pass a test of their images as images pass it
pub length-filter_places : {A X : Type 0} (test : X → Bool) (f : A → X) (xs : List A) → length (filter test (map f xs)) ≡ length (filter (λ (x : A). test (f x)) xs)
length-filter_places test f [] = refl
length-filter_places {A} {X} test f (x ∷ xs) = grind (arith, length-filter_places test f xs)
