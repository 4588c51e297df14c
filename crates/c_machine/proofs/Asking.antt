-- What is held is what the work asks for, and jumps in the work have where they lead.
use Rattle.std.proofs.Common.{◌≡◌, ℕ, zero, suc, Bool, true, false, List, [], ◌∷◌, ◌++◌, Option, None, Some, refl, sym, ap, ◌∙◌, subst}
use Rattle.c_program.specs.Syntax.{Stmts, Done, Next}
use Rattle.c_program.specs.Flow.{Around, looping, switching, within_block, outermost}
use Rattle.c_machine.specs.Machine.{Work, Do, Evaluate, Locate, Fetch, Store, Apply, Discard, Choose, Loop, Turn, Deliver, Body, Brace, Close, Frame, Use, AsPlace, Reach, Index, IndexedBy, Sample, FetchCells, StoreCells, CopyCells, ApplyOne, Change, ApplyPointers, Decide, Settle, Pick, Again, Tuck, Increase, Drop, Enter, Put, Paste, Finish, ForHead, ForNext, ForTurn, DoTest, DoTurn, Select, Switched, queued}
use Rattle.c_machine.proofs.Leading.{Leads, AllLead}

-- what stands around a statement, by the marks behind it
abbrev pub around_of : List Work → Around
around_of [] = outermost
around_of (Loop id e s ∷ rest) = looping (around_of rest)
around_of (ForNext h s ∷ rest) = looping (around_of rest)
around_of (DoTest h s ∷ rest) = looping (around_of rest)
around_of (Switched ∷ rest) = switching (around_of rest)
around_of (Close bases stmts ∷ rest) = within_block stmts (around_of rest)
around_of (Body stmts ∷ rest) = within_block stmts outermost
around_of (Brace id result ∷ rest) = outermost
around_of (Frame function site ∷ rest) = outermost
around_of (work ∷ rest) = around_of rest

-- what holds of one held value less, and of so many less, if there are as many
abbrev pub Below : ℕ → (ℕ → Type 0) → Type 0
Below zero P = ⊥
Below (suc n) P = P n

abbrev pub Taken : ℕ → ℕ → (ℕ → Type 0) → Type 0
Taken zero n P = P n
Taken (suc k) n P = Below n (λ m. Taken k m P)

-- So many held values are just those that the work asks for, and the function in progress can be left with so many. Between a statement and
-- its function's frame stand marks and statements alone.
abbrev mutual
  pub Asks : List Work → ℕ → Type 0
  Asks [] n = n ≡ 1
  Asks (Do s ∷ rest) n = Leads (around_of rest) s × IsLeft rest n × Asks rest n
  Asks (Evaluate e ∷ rest) n = Asks rest (suc n)
  Asks (Locate p ∷ rest) n = Asks rest (suc n)
  Asks (Fetch type ∷ rest) n = Below n (λ i. Asks rest (suc i))
  Asks (Use ∷ rest) n = Below n (λ i. Asks rest (suc i))
  Asks (AsPlace ∷ rest) n = Below n (λ i. Asks rest (suc i))
  Asks (Reach c m ∷ rest) n = Below n (λ i. Asks rest (suc i))
  Asks (Sample type ∷ rest) n = Below n (λ i. Asks rest (suc i))
  Asks (FetchCells t ∷ rest) n = Below n (λ i. Asks rest (suc i))
  Asks (ApplyOne op kind ∷ rest) n = Below n (λ i. Asks rest (suc i))
  Asks (Change t ∷ rest) n = Below n (λ i. Asks rest (suc i))
  Asks (Decide is_and e ∷ rest) n = Below n (λ i. Asks rest (suc i))
  Asks (Settle ∷ rest) n = Below n (λ i. Asks rest (suc i))
  Asks (Pick b c ∷ rest) n = Below n (λ i. Asks rest (suc i))
  Asks (Increase up t ∷ rest) n = Below n (λ i. Asks rest (suc i))
  Asks (Store type ∷ rest) n = Below n (λ i. Below i (λ j. Asks rest (suc j)))
  Asks (Apply op kind ∷ rest) n = Below n (λ i. Below i (λ j. Asks rest (suc j)))
  Asks (Index t k end ∷ rest) n = Below n (λ i. Below i (λ j. Asks rest (suc j)))
  Asks (IndexedBy t k end ∷ rest) n = Below n (λ i. Below i (λ j. Asks rest (suc j)))
  Asks (StoreCells named t ∷ rest) n = Below n (λ i. Below i (λ j. Asks rest (suc j)))
  Asks (CopyCells named t ∷ rest) n = Below n (λ i. Below i (λ j. Asks rest (suc j)))
  Asks (ApplyPointers op left right ∷ rest) n = Below n (λ i. Below i (λ j. Asks rest (suc j)))
  Asks (Put type ∷ rest) n = Below n (λ i. Below i (λ j. Asks rest (suc j)))
  Asks (Again ∷ rest) n = Below n (λ i. Asks rest (suc (suc i)))
  Asks (Tuck ∷ rest) n = Below n (λ i. Below i (λ j. Asks rest (suc (suc (suc j)))))
  Asks (Drop ∷ rest) n = Below n (λ i. Asks rest i)
  Asks (Discard id ∷ rest) n = Below n (λ i. Asks rest i)
  Asks (Enter site t k ∷ rest) n = Taken (suc k) n (λ i. Asks rest (suc i))
  Asks (Paste base image ∷ rest) n = Asks rest n
  Asks (Finish id ∷ rest) n = Asks rest n
  Asks (Choose id s t ∷ rest) n = Below n (λ i. Leads (around_of rest) s × Leads (around_of rest) t × IsLeft rest i × Asks rest i)
  Asks (Loop id e s ∷ rest) n = Leads (looping (around_of rest)) s × IsLeft rest n × Asks rest n
  Asks (Turn id e s ∷ rest) n = Below n (λ i. Leads (looping (around_of rest)) s × IsLeft rest i × Asks rest i)
  Asks (ForHead h s ∷ rest) n = Leads (looping (around_of rest)) s × IsLeft rest n × Asks rest n
  Asks (ForNext h s ∷ rest) n = Leads (looping (around_of rest)) s × IsLeft rest n × Asks rest n
  Asks (ForTurn h s ∷ rest) n = Below n (λ i. Leads (looping (around_of rest)) s × IsLeft rest i × Asks rest i)
  Asks (DoTest h s ∷ rest) n = Leads (looping (around_of rest)) s × IsLeft rest n × Asks rest n
  Asks (DoTurn h s ∷ rest) n = Below n (λ i. Leads (looping (around_of rest)) s × IsLeft rest i × Asks rest i)
  Asks (Select id s ∷ rest) n = Below n (λ i. Leads (switching (around_of rest)) s × IsLeft rest i × Asks rest i)
  Asks (Switched ∷ rest) n = Asks rest n
  Asks (Deliver id ∷ rest) n = Below n (λ i. IsLeft rest i)
  Asks (Body stmts ∷ rest) n = AllLead (within_block stmts outermost) stmts × IsLeft rest n × Asks rest n
  Asks (Brace id result ∷ rest) n = IsLeft rest n
  Asks (Close bases stmts ∷ rest) n = AllLead (within_block stmts (around_of rest)) stmts × IsLeft rest n × Asks rest n
  Asks (Frame function site ∷ rest) n = ⊥

  pub IsLeft : List Work → ℕ → Type 0
  IsLeft [] n = ⊥
  IsLeft (Frame function site ∷ rest) n = Asks rest (suc n)
  IsLeft (Do s ∷ rest) n = IsLeft rest n
  IsLeft (Loop id e s ∷ rest) n = IsLeft rest n
  IsLeft (ForHead h s ∷ rest) n = IsLeft rest n
  IsLeft (ForNext h s ∷ rest) n = IsLeft rest n
  IsLeft (DoTest h s ∷ rest) n = IsLeft rest n
  IsLeft (Switched ∷ rest) n = IsLeft rest n
  IsLeft (Body stmts ∷ rest) n = IsLeft rest n
  IsLeft (Brace id result ∷ rest) n = IsLeft rest n
  IsLeft (Close bases stmts ∷ rest) n = IsLeft rest n
  IsLeft (work ∷ rest) n = ⊥

-- ---- statements one after the other

pub around_queued : (stmts : Stmts) (rest : List Work) → around_of (queued stmts rest) ≡ around_of rest
around_queued Done rest = refl
around_queued (Next s more) rest = around_queued more rest

pub queued_left : (stmts : Stmts) (rest : List Work) (n : ℕ) → IsLeft rest n → IsLeft (queued stmts rest) n
queued_left Done rest n h = h
queued_left (Next s more) rest n h = queued_left more rest n h

pub queued_asks : (stmts : Stmts) (rest : List Work) (n : ℕ) → AllLead (around_of rest) stmts → IsLeft rest n → Asks rest n → Asks (queued stmts rest) n
queued_asks Done rest n l h k = k
queued_asks (Next s more) rest n l h k =
    (subst (λ a. Leads a s) (sym (around_queued more rest)) l.0, queued_left more rest n h, queued_asks more rest n l.1 h k)
