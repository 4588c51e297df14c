-- Jumps lead to work that asks for what is held.
use Rattle.std.proofs.Common.{◌≡◌, ℕ, zero, suc, ◌⊎◌, inl, inr, Bool, true, false, cond, IsTrue, List, [], ◌∷◌, ◌++◌, Option, None, Some, refl, sym, subst, ap, ◌∙◌, arith}
use Rattle.std.specs.Prelude.{bytes_eq}
use Rattle.std.specs.List.{Contains}
use Rattle.std.proofs.lemmas.List.Elements.{Contains-append_cases}
use Rattle.std.proofs.lemmas.Slice.Eq.{bytes_eq-Decides}
use Rattle.c_program.specs.Syntax.{Stmt, Expression, Return, If, While, Block, Nothing, Empty, ReturnNothing, DoWhile, For, Switch, Case, Label, Goto, Break, Continue, Initialise, Assert, Stmts, Done, Next}
use Rattle.c_program.specs.Flow.{Around, looping, switching, within_block, outermost, labels_of, labels_in}
use Rattle.c_machine.specs.Machine.{Work, Do, Evaluate, Locate, Fetch, Store, Apply, Discard, Choose, Loop, Turn, Deliver, Body, Brace, Close, Frame, Use, AsPlace, Reach, Index, IndexedBy, Sample, FetchCells, StoreCells, CopyCells, ApplyOne, Change, ApplyPointers, Decide, Settle, Pick, Again, Tuck, Increase, Drop, Enter, Put, Paste, Finish, ForHead, ForNext, ForTurn, DoTest, DoTurn, Select, Switched, queued}
use Rattle.c_machine.specs.Jumps.{Jump, first_some, at_label, at_label_in, jump_or, jump_to, jump_behind, jump_on, same_case, at_case, at_case_in, Entry, entry_at, selected}
use Rattle.c_machine.proofs.Leading.{Leads, AllLead}
use Rattle.c_machine.proofs.Asking.{around_of, Below, Asks, IsLeft, around_queued, queued_left, queued_asks}

-- an option has something, and it asks for so many values
abbrev pub Lands : Option (List Work) → ℕ → Type 0
Lands None n = Unit {0}
Lands (Some control) n = Asks control n

first_lands : (a b : Option (List Work)) (n : ℕ) → Lands a n → Lands b n → Lands (first_some a b) n
first_lands None b n h k = k
first_lands (Some a) b n h k = h

-- ---- labels

mutual
  pub label_lands : (name : List ℕ) (s : Stmt) (rest : List Work) (n : ℕ) → Leads (around_of rest) s → IsLeft rest n → Asks rest n → Lands (at_label name s rest) n
  label_lands name (Expression id e) rest n l h k = tt
  label_lands name (Return id e) rest n l h k = tt
  label_lands name (Block bases stmts) rest n l h k = tt
  label_lands name Nothing rest n l h k = tt
  label_lands name (Empty id) rest n l h k = tt
  label_lands name (ReturnNothing id) rest n l h k = tt
  label_lands name (Goto id label) rest n l h k = tt
  label_lands name (Break id) rest n l h k = tt
  label_lands name (Continue id) rest n l h k = tt
  label_lands name (Initialise id base cleared items) rest n l h k = tt
  label_lands name (Assert id predicate) rest n l h k = tt
  label_lands name (Label label s) rest n l h k = by_name (label_lands name s rest n l h k) (bytes_eq label name)
    where
      by_name : Lands (at_label name s rest) n → (t : Bool) → Lands (cond t (Some (Do s ∷ rest)) (at_label name s rest)) n
      by_name inside true = (l, h, k)
      by_name inside false = inside
  label_lands name (If id e s t) rest n l h k = first_lands (at_label name s rest) (at_label name t rest) n (label_lands name s rest n l.0 h k) (label_lands name t rest n l.1 h k)
  label_lands name (While id e s) rest n l h k = label_lands name s (Loop id e s ∷ rest) n l h (l, h, k)
  label_lands name (DoWhile p s) rest n l h k = label_lands name s (DoTest p s ∷ rest) n l h (l, h, k)
  label_lands name (For p s) rest n l h k = label_lands name s (ForNext p s ∷ rest) n l h (l, h, k)
  label_lands name (Switch id e s) rest n l h k = label_lands name s (Switched ∷ rest) n l h k
  label_lands name (Case value s) rest n l h k = label_lands name s rest n l h k

pub labels_land : (name : List ℕ) (stmts : Stmts) (rest : List Work) (n : ℕ) → AllLead (around_of rest) stmts → IsLeft rest n → Asks rest n →
    Lands (at_label_in name stmts rest) n
labels_land name Done rest n l h k = tt
labels_land name (Next s more) rest n l h k =
    first_lands (at_label name s (queued more rest)) (at_label_in name more rest) n
    (label_lands name s (queued more rest) n (subst (λ a. Leads a s) (sym (around_queued more rest)) l.0) (queued_left more rest n h) (queued_asks more rest n l.1 h k))
    (labels_land name more rest n l.1 h k)

-- a label that stands in a statement is found
abbrev pub IsFound : Option (List Work) → Type 0
IsFound None = ⊥
IsFound (Some control) = Unit {0}

found_first : (a b : Option (List Work)) → IsFound a → IsFound (first_some a b)
found_first None b h = absurd h
found_first (Some a) b h = tt

found_second : (a b : Option (List Work)) → IsFound b → IsFound (first_some a b)
found_second None b h = h
found_second (Some a) b h = tt

cons_cases : (x : List ℕ) (xs : List (List ℕ)) (y : List ℕ) → Contains (x ∷ xs) y → (x ≡ y) ⊎ Contains xs y
cons_cases x xs y (zero, lt, e) = inl e
cons_cases x xs y (suc k, lt, e) = inr (k, omega arith, e)

none_contained : (y : List ℕ) → Contains [] y → ⊥
none_contained y (k, lt, e) = omega arith

pub label_found : (name : List ℕ) (s : Stmt) (rest : List Work) → Contains (labels_of s) name → IsFound (at_label name s rest)
label_found name (Expression id e) rest h = absurd (none_contained name h)
label_found name (Return id e) rest h = absurd (none_contained name h)
label_found name (Block bases stmts) rest h = absurd (none_contained name h)
label_found name Nothing rest h = absurd (none_contained name h)
label_found name (Empty id) rest h = absurd (none_contained name h)
label_found name (ReturnNothing id) rest h = absurd (none_contained name h)
label_found name (Goto id label) rest h = absurd (none_contained name h)
label_found name (Break id) rest h = absurd (none_contained name h)
label_found name (Continue id) rest h = absurd (none_contained name h)
label_found name (Initialise id base cleared items) rest h = absurd (none_contained name h)
label_found name (Assert id predicate) rest h = absurd (none_contained name h)
label_found name (Label label s) rest h = by_cases (label_found name s rest) (cons_cases label (labels_of s) name h)
  where
    by_name : (t : Bool) → IsFound (at_label name s rest) → IsFound (cond t (Some (Do s ∷ rest)) (at_label name s rest))
    by_name true k = tt
    by_name false k = k

    by_cases : (Contains (labels_of s) name → IsFound (at_label name s rest)) → (label ≡ name) ⊎ Contains (labels_of s) name → IsFound (at_label name (Label label s) rest)
    by_cases inside (inl e) = let same : bytes_eq label name ≡ true = (bytes_eq-Decides label name).1 e in rw same tt
    by_cases inside (inr k) = by_name (bytes_eq label name) (inside k)
label_found name (If id e s t) rest h =
    by_cases (label_found name s rest) (label_found name t rest) (Contains-append_cases (labels_of s) (labels_of t) name h)
  where
    by_cases : (Contains (labels_of s) name → IsFound (at_label name s rest)) → (Contains (labels_of t) name → IsFound (at_label name t rest)) →
        Contains (labels_of s) name ⊎ Contains (labels_of t) name → IsFound (at_label name (If id e s t) rest)
    by_cases first second (inl k) = found_first (at_label name s rest) (at_label name t rest) (first k)
    by_cases first second (inr k) = found_second (at_label name s rest) (at_label name t rest) (second k)
label_found name (While id e s) rest h = label_found name s (Loop id e s ∷ rest) h
label_found name (DoWhile p s) rest h = label_found name s (DoTest p s ∷ rest) h
label_found name (For p s) rest h = label_found name s (ForNext p s ∷ rest) h
label_found name (Switch id e s) rest h = label_found name s (Switched ∷ rest) h
label_found name (Case value s) rest h = label_found name s rest h

pub labels_found : (name : List ℕ) (stmts : Stmts) (rest : List Work) → Contains (labels_in stmts) name → IsFound (at_label_in name stmts rest)
labels_found name Done rest h = absurd (none_contained name h)
labels_found name (Next s more) rest h = by_cases (labels_found name more rest) (Contains-append_cases (labels_of s) (labels_in more) name h)
  where
    by_cases : (Contains (labels_in more) name → IsFound (at_label_in name more rest)) → Contains (labels_of s) name ⊎ Contains (labels_in more) name →
        IsFound (at_label_in name (Next s more) rest)
    by_cases later (inl k) = found_first (at_label name s (queued more rest)) (at_label_in name more rest) (label_found name s (queued more rest) k)
    by_cases later (inr k) = found_second (at_label name s (queued more rest)) (at_label_in name more rest) (later k)

-- ---- jumps

-- there is a jump, and it lands
abbrev pub Jumps : Option Jump → ℕ → Type 0
Jumps None n = ⊥
Jumps (Some j) n = Asks j.control n

jump_or_lands : (dying : List ℕ) (control : Option (List Work)) (outside : Option Jump) (n : ℕ) → Lands control n → (IsFound control ⊎ Jumps outside n) →
    Jumps (jump_or dying control outside) n
jump_or_lands dying None outside n h (inl f) = absurd f
jump_or_lands dying None outside n h (inr k) = k
jump_or_lands dying (Some control) outside n h k = h

pub jump_lands : (name dying : List ℕ) (rest : List Work) (n : ℕ) → Contains (around_of rest).labels name → IsLeft rest n → Asks rest n → Jumps (jump_to name dying rest) n
jump_lands name dying [] n c h k = absurd h
jump_lands name dying (Do s ∷ rest) n c h k = jump_lands name dying rest n c h k.2
jump_lands name dying (Loop id e s ∷ rest) n c h k = jump_lands name dying rest n c h k.2
jump_lands name dying (ForHead p s ∷ rest) n c h k = jump_lands name dying rest n c h k.2
jump_lands name dying (ForNext p s ∷ rest) n c h k = jump_lands name dying rest n c h k.2
jump_lands name dying (DoTest p s ∷ rest) n c h k = jump_lands name dying rest n c h k.2
jump_lands name dying (Switched ∷ rest) n c h k = jump_lands name dying rest n c h k
jump_lands name dying (Brace id result ∷ rest) n c h k = absurd (none_contained name c)
jump_lands name dying (Frame function site ∷ rest) n c h k = absurd k
jump_lands name dying (Body stmts ∷ rest) n c h k =
    jump_or_lands dying (at_label_in name stmts (Body stmts ∷ rest)) (jump_to name dying rest) n (labels_land name stmts (Body stmts ∷ rest) n k.0 h k) (by_cases (Contains-append_cases (labels_in stmts) [] name c))
  where
    by_cases : Contains (labels_in stmts) name ⊎ Contains [] name → IsFound (at_label_in name stmts (Body stmts ∷ rest)) ⊎ Jumps (jump_to name dying rest) n
    by_cases (inl d) = inl (labels_found name stmts (Body stmts ∷ rest) d)
    by_cases (inr d) = absurd (none_contained name d)
jump_lands name dying (Close bases stmts ∷ rest) n c h k =
    jump_or_lands dying (at_label_in name stmts (Close bases stmts ∷ rest)) (jump_to name (dying ++ bases) rest) n (labels_land name stmts (Close bases stmts ∷ rest) n k.0 h k)
    (by_cases (λ d. jump_lands name (dying ++ bases) rest n d h k.2) (Contains-append_cases (labels_in stmts) (around_of rest).labels name c))
  where
    by_cases : (Contains (around_of rest).labels name → Jumps (jump_to name (dying ++ bases) rest) n) →
        Contains (labels_in stmts) name ⊎ Contains (around_of rest).labels name →
        IsFound (at_label_in name stmts (Close bases stmts ∷ rest)) ⊎ Jumps (jump_to name (dying ++ bases) rest) n
    by_cases outside (inl d) = inl (labels_found name stmts (Close bases stmts ∷ rest) d)
    by_cases outside (inr d) = inr (outside d)
jump_lands name dying (Evaluate e ∷ rest) n is way asks = absurd way
jump_lands name dying (Locate p ∷ rest) n is way asks = absurd way
jump_lands name dying (Fetch type ∷ rest) n is way asks = absurd way
jump_lands name dying (Store type ∷ rest) n is way asks = absurd way
jump_lands name dying (Apply op kind ∷ rest) n is way asks = absurd way
jump_lands name dying (Discard id ∷ rest) n is way asks = absurd way
jump_lands name dying (Choose id s t ∷ rest) n is way asks = absurd way
jump_lands name dying (Turn id e s ∷ rest) n is way asks = absurd way
jump_lands name dying (Deliver id ∷ rest) n is way asks = absurd way
jump_lands name dying (Use ∷ rest) n is way asks = absurd way
jump_lands name dying (AsPlace ∷ rest) n is way asks = absurd way
jump_lands name dying (Reach c m ∷ rest) n is way asks = absurd way
jump_lands name dying (Index t k end ∷ rest) n is way asks = absurd way
jump_lands name dying (IndexedBy t k end ∷ rest) n is way asks = absurd way
jump_lands name dying (Sample type ∷ rest) n is way asks = absurd way
jump_lands name dying (FetchCells t ∷ rest) n is way asks = absurd way
jump_lands name dying (StoreCells named t ∷ rest) n is way asks = absurd way
jump_lands name dying (CopyCells named t ∷ rest) n is way asks = absurd way
jump_lands name dying (ApplyOne op kind ∷ rest) n is way asks = absurd way
jump_lands name dying (Change t ∷ rest) n is way asks = absurd way
jump_lands name dying (ApplyPointers op left right ∷ rest) n is way asks = absurd way
jump_lands name dying (Decide is_and e ∷ rest) n is way asks = absurd way
jump_lands name dying (Settle ∷ rest) n is way asks = absurd way
jump_lands name dying (Pick b c ∷ rest) n is way asks = absurd way
jump_lands name dying (Again ∷ rest) n is way asks = absurd way
jump_lands name dying (Tuck ∷ rest) n is way asks = absurd way
jump_lands name dying (Increase up t ∷ rest) n is way asks = absurd way
jump_lands name dying (Drop ∷ rest) n is way asks = absurd way
jump_lands name dying (Enter site t k ∷ rest) n is way asks = absurd way
jump_lands name dying (Put type ∷ rest) n is way asks = absurd way
jump_lands name dying (Paste base image ∷ rest) n is way asks = absurd way
jump_lands name dying (Finish id ∷ rest) n is way asks = absurd way
jump_lands name dying (ForTurn h s ∷ rest) n is way asks = absurd way
jump_lands name dying (DoTurn h s ∷ rest) n is way asks = absurd way
jump_lands name dying (Select id s ∷ rest) n is way asks = absurd way

pub behind_lands : (dying : List ℕ) (rest : List Work) (n : ℕ) → IsTrue (around_of rest).breakable → IsLeft rest n → Asks rest n → Jumps (jump_behind dying rest) n
behind_lands dying [] n c h k = absurd h
behind_lands dying (Do s ∷ rest) n c h k = behind_lands dying rest n c h k.2
behind_lands dying (Loop id e s ∷ rest) n c h k = k.2
behind_lands dying (ForHead p s ∷ rest) n c h k = behind_lands dying rest n c h k.2
behind_lands dying (ForNext p s ∷ rest) n c h k = k.2
behind_lands dying (DoTest p s ∷ rest) n c h k = k.2
behind_lands dying (Switched ∷ rest) n c h k = k
behind_lands dying (Brace id result ∷ rest) n c h k = absurd (cc)
behind_lands dying (Frame function site ∷ rest) n c h k = absurd k
behind_lands dying (Body stmts ∷ rest) n c h k = absurd (cc)
behind_lands dying (Close bases stmts ∷ rest) n c h k = behind_lands (dying ++ bases) rest n c h k.2
behind_lands dying (Evaluate e ∷ rest) n is way asks = absurd way
behind_lands dying (Locate p ∷ rest) n is way asks = absurd way
behind_lands dying (Fetch type ∷ rest) n is way asks = absurd way
behind_lands dying (Store type ∷ rest) n is way asks = absurd way
behind_lands dying (Apply op kind ∷ rest) n is way asks = absurd way
behind_lands dying (Discard id ∷ rest) n is way asks = absurd way
behind_lands dying (Choose id s t ∷ rest) n is way asks = absurd way
behind_lands dying (Turn id e s ∷ rest) n is way asks = absurd way
behind_lands dying (Deliver id ∷ rest) n is way asks = absurd way
behind_lands dying (Use ∷ rest) n is way asks = absurd way
behind_lands dying (AsPlace ∷ rest) n is way asks = absurd way
behind_lands dying (Reach c m ∷ rest) n is way asks = absurd way
behind_lands dying (Index t k end ∷ rest) n is way asks = absurd way
behind_lands dying (IndexedBy t k end ∷ rest) n is way asks = absurd way
behind_lands dying (Sample type ∷ rest) n is way asks = absurd way
behind_lands dying (FetchCells t ∷ rest) n is way asks = absurd way
behind_lands dying (StoreCells named t ∷ rest) n is way asks = absurd way
behind_lands dying (CopyCells named t ∷ rest) n is way asks = absurd way
behind_lands dying (ApplyOne op kind ∷ rest) n is way asks = absurd way
behind_lands dying (Change t ∷ rest) n is way asks = absurd way
behind_lands dying (ApplyPointers op left right ∷ rest) n is way asks = absurd way
behind_lands dying (Decide is_and e ∷ rest) n is way asks = absurd way
behind_lands dying (Settle ∷ rest) n is way asks = absurd way
behind_lands dying (Pick b c ∷ rest) n is way asks = absurd way
behind_lands dying (Again ∷ rest) n is way asks = absurd way
behind_lands dying (Tuck ∷ rest) n is way asks = absurd way
behind_lands dying (Increase up t ∷ rest) n is way asks = absurd way
behind_lands dying (Drop ∷ rest) n is way asks = absurd way
behind_lands dying (Enter site t k ∷ rest) n is way asks = absurd way
behind_lands dying (Put type ∷ rest) n is way asks = absurd way
behind_lands dying (Paste base image ∷ rest) n is way asks = absurd way
behind_lands dying (Finish id ∷ rest) n is way asks = absurd way
behind_lands dying (ForTurn h s ∷ rest) n is way asks = absurd way
behind_lands dying (DoTurn h s ∷ rest) n is way asks = absurd way
behind_lands dying (Select id s ∷ rest) n is way asks = absurd way

pub on_lands : (dying : List ℕ) (rest : List Work) (n : ℕ) → IsTrue (around_of rest).in_loop → IsLeft rest n → Asks rest n → Jumps (jump_on dying rest) n
on_lands dying [] n c h k = absurd h
on_lands dying (Do s ∷ rest) n c h k = on_lands dying rest n c h k.2
on_lands dying (Loop id e s ∷ rest) n c h k = k
on_lands dying (ForHead p s ∷ rest) n c h k = on_lands dying rest n c h k.2
on_lands dying (ForNext p s ∷ rest) n c h k = k
on_lands dying (DoTest p s ∷ rest) n c h k = k
on_lands dying (Switched ∷ rest) n c h k = on_lands dying rest n c h k
on_lands dying (Brace id result ∷ rest) n c h k = absurd (cc)
on_lands dying (Frame function site ∷ rest) n c h k = absurd k
on_lands dying (Body stmts ∷ rest) n c h k = absurd (cc)
on_lands dying (Close bases stmts ∷ rest) n c h k = on_lands (dying ++ bases) rest n c h k.2
on_lands dying (Evaluate e ∷ rest) n is way asks = absurd way
on_lands dying (Locate p ∷ rest) n is way asks = absurd way
on_lands dying (Fetch type ∷ rest) n is way asks = absurd way
on_lands dying (Store type ∷ rest) n is way asks = absurd way
on_lands dying (Apply op kind ∷ rest) n is way asks = absurd way
on_lands dying (Discard id ∷ rest) n is way asks = absurd way
on_lands dying (Choose id s t ∷ rest) n is way asks = absurd way
on_lands dying (Turn id e s ∷ rest) n is way asks = absurd way
on_lands dying (Deliver id ∷ rest) n is way asks = absurd way
on_lands dying (Use ∷ rest) n is way asks = absurd way
on_lands dying (AsPlace ∷ rest) n is way asks = absurd way
on_lands dying (Reach c m ∷ rest) n is way asks = absurd way
on_lands dying (Index t k end ∷ rest) n is way asks = absurd way
on_lands dying (IndexedBy t k end ∷ rest) n is way asks = absurd way
on_lands dying (Sample type ∷ rest) n is way asks = absurd way
on_lands dying (FetchCells t ∷ rest) n is way asks = absurd way
on_lands dying (StoreCells named t ∷ rest) n is way asks = absurd way
on_lands dying (CopyCells named t ∷ rest) n is way asks = absurd way
on_lands dying (ApplyOne op kind ∷ rest) n is way asks = absurd way
on_lands dying (Change t ∷ rest) n is way asks = absurd way
on_lands dying (ApplyPointers op left right ∷ rest) n is way asks = absurd way
on_lands dying (Decide is_and e ∷ rest) n is way asks = absurd way
on_lands dying (Settle ∷ rest) n is way asks = absurd way
on_lands dying (Pick b c ∷ rest) n is way asks = absurd way
on_lands dying (Again ∷ rest) n is way asks = absurd way
on_lands dying (Tuck ∷ rest) n is way asks = absurd way
on_lands dying (Increase up t ∷ rest) n is way asks = absurd way
on_lands dying (Drop ∷ rest) n is way asks = absurd way
on_lands dying (Enter site t k ∷ rest) n is way asks = absurd way
on_lands dying (Put type ∷ rest) n is way asks = absurd way
on_lands dying (Paste base image ∷ rest) n is way asks = absurd way
on_lands dying (Finish id ∷ rest) n is way asks = absurd way
on_lands dying (ForTurn h s ∷ rest) n is way asks = absurd way
on_lands dying (DoTurn h s ∷ rest) n is way asks = absurd way
on_lands dying (Select id s ∷ rest) n is way asks = absurd way

-- ---- `switch`

pub case_lands : (value : Option _) (s : Stmt) (rest : List Work) (n : ℕ) → Leads (around_of rest) s → IsLeft rest n → Asks rest n → Lands (at_case value s rest) n
case_lands value (Expression id e) rest n l h k = tt
case_lands value (Return id e) rest n l h k = tt
case_lands value (If id e s t) rest n l h k = tt
case_lands value (While id e s) rest n l h k = tt
case_lands value (Block bases stmts) rest n l h k = tt
case_lands value Nothing rest n l h k = tt
case_lands value (Empty id) rest n l h k = tt
case_lands value (ReturnNothing id) rest n l h k = tt
case_lands value (DoWhile p s) rest n l h k = tt
case_lands value (For p s) rest n l h k = tt
case_lands value (Switch id e s) rest n l h k = tt
case_lands value (Goto id label) rest n l h k = tt
case_lands value (Break id) rest n l h k = tt
case_lands value (Continue id) rest n l h k = tt
case_lands value (Initialise id base cleared items) rest n l h k = tt
case_lands value (Assert id predicate) rest n l h k = tt
case_lands value (Label name s) rest n l h k = case_lands value s rest n l h k
case_lands value (Case v s) rest n l h k = by_value (case_lands value s rest n l h k) (same_case value v)
  where
    by_value : Lands (at_case value s rest) n → (t : Bool) → Lands (cond t (Some (Do s ∷ rest)) (at_case value s rest)) n
    by_value inside true = (l, h, k)
    by_value inside false = inside

pub cases_land : (value : Option _) (stmts : Stmts) (rest : List Work) (n : ℕ) → AllLead (around_of rest) stmts → IsLeft rest n → Asks rest n →
    Lands (at_case_in value stmts rest) n
cases_land value Done rest n l h k = tt
cases_land value (Next s more) rest n l h k =
    first_lands (at_case value s (queued more rest)) (at_case_in value more rest) n
    (case_lands value s (queued more rest) n (subst (λ a. Leads a s) (sym (around_queued more rest)) l.0) (queued_left more rest n h) (queued_asks more rest n l.1 h k))
    (cases_land value more rest n l.1 h k)

abbrev pub Enters : Option Entry → ℕ → Type 0
Enters None n = Unit {0}
Enters (Some e) n = Asks e.control n

entry_lands : (bases : List ℕ) (control : Option (List Work)) (n : ℕ) → Lands control n → Enters (entry_at bases control) n
entry_lands bases None n h = tt
entry_lands bases (Some control) n h = h

pub selected_lands : (v : _) (s : Stmt) (rest : List Work) (n : ℕ) → Leads (switching (around_of rest)) s → IsLeft rest n → Asks rest n → Enters (selected v s rest) n
selected_lands v (Expression id e) rest n l h k = tt
selected_lands v (Return id e) rest n l h k = tt
selected_lands v (If id e s t) rest n l h k = tt
selected_lands v (While id e s) rest n l h k = tt
selected_lands v Nothing rest n l h k = tt
selected_lands v (Empty id) rest n l h k = tt
selected_lands v (ReturnNothing id) rest n l h k = tt
selected_lands v (DoWhile p s) rest n l h k = tt
selected_lands v (For p s) rest n l h k = tt
selected_lands v (Switch id e s) rest n l h k = tt
selected_lands v (Case value s) rest n l h k = tt
selected_lands v (Goto id label) rest n l h k = tt
selected_lands v (Break id) rest n l h k = tt
selected_lands v (Continue id) rest n l h k = tt
selected_lands v (Initialise id base cleared items) rest n l h k = tt
selected_lands v (Assert id predicate) rest n l h k = tt
selected_lands v (Label name s) rest n l h k = selected_lands v s rest n l h k
selected_lands v (Block bases stmts) rest n l h k =
    let inside = Close bases stmts ∷ Switched ∷ rest in
    entry_lands bases (first_some (at_case_in (Some v) stmts inside) (at_case_in None stmts inside)) n
    (first_lands (at_case_in (Some v) stmts inside) (at_case_in None stmts inside) n (cases_land (Some v) stmts inside n l h (l, h, k)) (cases_land None stmts inside n l h (l, h, k)))
