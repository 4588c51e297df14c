-- Jumps of a statement have where they lead, wherever its `case` labels stand.
use Rattle.std.proofs.Common.{◌≡◌, ℕ, Bool, true, false, IsTrue, List, [], ◌∷◌, refl}
use Rattle.std.specs.List.{Contains}
use Rattle.c_program.specs.Syntax.{Stmt, Expression, Return, If, While, Block, Nothing, Empty, ReturnNothing, DoWhile, For, Switch, Case, Label, Goto, Break, Continue, Initialise, Assert, Stmts, Done, Next}
use Rattle.c_program.specs.Flow.{Around, looping, switching, within_block, Flows, FlowsInSwitch, AllFlow}
use Rattle.c_machine.specs.Laws.{IsBare, AreBare}

-- the jumps of a statement without annotations have where they lead
abbrev mutual
  pub Leads : Around → Stmt → Type 0
  Leads a (If id e s t) = Leads a s × Leads a t
  Leads a (While id e s) = Leads (looping a) s
  Leads a (Block bases stmts) = AllLead (within_block stmts a) stmts
  Leads a (DoWhile h s) = Leads (looping a) s
  Leads a (For h s) = Leads (looping a) s
  Leads a (Switch id e s) = Leads (switching a) s
  Leads a (Case value s) = Leads a s
  Leads a (Label name s) = Leads a s
  Leads a (Goto id name) = Contains a.labels name
  Leads a (Break id) = IsTrue a.breakable
  Leads a (Continue id) = IsTrue a.in_loop
  Leads a (Assert id predicate) = ⊥
  Leads a s = Unit {0}

  pub AllLead : Around → Stmts → Type 0
  AllLead a Done = Unit {0}
  AllLead a (Next s more) = Leads a s × AllLead a more

mutual
  pub leads : (a : Around) (b : Bool) (s : Stmt) → Flows a b s → IsBare s → Leads a s
  leads a b (Expression id e) h k = tt
  leads a b (Return id e) h k = tt
  leads a b (If id e s t) h k = (leads a false s h.0 k.0, leads a false t h.1 k.1)
  leads a b (While id e s) h k = leads (looping a) false s h k
  leads a b (Block bases stmts) h k = all_lead (within_block stmts a) false stmts h k
  leads a b Nothing h k = tt
  leads a b (Empty id) h k = tt
  leads a b (ReturnNothing id) h k = tt
  leads a b (DoWhile p s) h k = leads (looping a) false s h k.1
  leads a b (For p s) h k = leads (looping a) false s h k.1
  leads a b (Switch id e s) h k = leads_in_switch (switching a) s h k
  leads a b (Case value s) h k = leads a b s h.1 k
  leads a b (Label name s) h k = leads a b s h k
  leads a b (Goto id name) h k = h
  leads a b (Break id) h k = h
  leads a b (Continue id) h k = h
  leads a b (Initialise id base cleared items) h k = tt
  leads a b (Assert id predicate) h k = k

  pub leads_in_switch : (a : Around) (s : Stmt) → FlowsInSwitch a s → IsBare s → Leads a s
  leads_in_switch a (Expression id e) h k = tt
  leads_in_switch a (Return id e) h k = tt
  leads_in_switch a (If id e s t) h k = (leads a false s h.0 k.0, leads a false t h.1 k.1)
  leads_in_switch a (While id e s) h k = leads (looping a) false s h k
  leads_in_switch a (Block bases stmts) h k = all_lead (within_block stmts a) true stmts h.1 k
  leads_in_switch a Nothing h k = tt
  leads_in_switch a (Empty id) h k = tt
  leads_in_switch a (ReturnNothing id) h k = tt
  leads_in_switch a (DoWhile p s) h k = leads (looping a) false s h k.1
  leads_in_switch a (For p s) h k = leads (looping a) false s h k.1
  leads_in_switch a (Switch id e s) h k = leads_in_switch (switching a) s h k
  leads_in_switch a (Case value s) h k = absurd h
  leads_in_switch a (Label name s) h k = leads_in_switch a s h k
  leads_in_switch a (Goto id name) h k = h
  leads_in_switch a (Break id) h k = h
  leads_in_switch a (Continue id) h k = h
  leads_in_switch a (Initialise id base cleared items) h k = tt
  leads_in_switch a (Assert id predicate) h k = k

  pub all_lead : (a : Around) (b : Bool) (stmts : Stmts) → AllFlow a b stmts → AreBare stmts → AllLead a stmts
  all_lead a b Done h k = tt
  all_lead a b (Next s more) h k = (leads a b s h.0 k.0, all_lead a b more h.1 k.1)
