use Rattle.std.proofs.Common.{◌≡◌, Some, refl, sym, ◌∙◌, ap, rules}
use Rattle.craig_spec.specs.AigerReading.{Symbol, symbol_of}
use Rattle.craig_aiger_read.specs.declared.symbols.NameTable.{NameTable}
use Rattle.craig_aiger_read.specs.ReadNames.{HasNames, is_free}
use Rattle.craig_aiger_read.proofs.SymbolLemmas.{names_of-other, names_of-set, symbol-fault, symbol-named, symbol_in-free, symbol_in-kindless, symbol_in-none}
use Rattle.craig_aiger_read.proofs.symbols.add_symbol.Goals as goal

pub returns-in_default-clause-fault : goal.returns-in_default-clause-fault
returns-in_default-clause-fault c = λ counts symbols h. symbol_in-none counts symbols _ (sym c.in_default.ensures)

pub returns-in-105-clause-named : goal.returns-in-105-clause-named
returns-in-105-clause-named c =
    let new : NameTable = record { inputs = c.give_name.new.names; latches = c.args.names.now.latches; outputs = c.args.names.now.outputs; bads = c.args.names.now.bads } in
    let own : Symbol = record { letter = 105; position = c.in-Some.position; name = c.in-Some.name.now } in
    let found : symbol_of c.args.line.now ≡ Some own = sym c.in-Some.ensures ∙ ap (λ z. Some (record { letter = z; position = c.in-Some.position; name = c.in-Some.name.now })) c.in-105.is in
    symbol-named (λ counts symbols. HasNames counts symbols c.args.names.now) (λ counts symbols. HasNames counts symbols new) _ own (is_free c.args.names.now.inputs.items c.in-Some.position) _ c.give_name.result c.give_name.ensures.read c.give_name.ensures.named
    (λ counts symbols h. symbol_in-free counts symbols _ own c.args.names.now.inputs.items found h.inputs)
    (λ counts symbols h free named. record {
      inputs = named ∙ sym (names_of-set symbols own counts.inputs c.args.names.now.inputs.items h.inputs free);
      latches = h.latches ∙ sym (names_of-other symbols own 108 counts.latches (λ i. refl));
      outputs = h.outputs ∙ sym (names_of-other symbols own 111 counts.outputs (λ i. refl));
      bads = h.bads ∙ sym (names_of-other symbols own 98 counts.bads (λ i. refl));
    })

pub returns-in-105-clause-fault : goal.returns-in-105-clause-fault
returns-in-105-clause-fault c =
    let own : Symbol = record { letter = 105; position = c.in-Some.position; name = c.in-Some.name.now } in
    let found : symbol_of c.args.line.now ≡ Some own = sym c.in-Some.ensures ∙ ap (λ z. Some (record { letter = z; position = c.in-Some.position; name = c.in-Some.name.now })) c.in-105.is in
    symbol-fault (λ counts symbols. HasNames counts symbols c.args.names.now) _ own (is_free c.args.names.now.inputs.items c.in-Some.position) c.give_name.result c.give_name.ensures.read
    (λ counts symbols h. symbol_in-free counts symbols _ own c.args.names.now.inputs.items found h.inputs)

pub returns-in-108-clause-named : goal.returns-in-108-clause-named
returns-in-108-clause-named c =
    let new : NameTable = record { inputs = c.args.names.now.inputs; latches = c.give_name-in-108.new.names; outputs = c.args.names.now.outputs; bads = c.args.names.now.bads } in
    let own : Symbol = record { letter = 108; position = c.in-Some.position; name = c.in-Some.name.now } in
    let found : symbol_of c.args.line.now ≡ Some own = sym c.in-Some.ensures ∙ ap (λ z. Some (record { letter = z; position = c.in-Some.position; name = c.in-Some.name.now })) c.in-108.is in
    symbol-named (λ counts symbols. HasNames counts symbols c.args.names.now) (λ counts symbols. HasNames counts symbols new) _ own (is_free c.args.names.now.latches.items c.in-Some.position) _ c.give_name-in-108.result c.give_name-in-108.ensures.read c.give_name-in-108.ensures.named
    (λ counts symbols h. symbol_in-free counts symbols _ own c.args.names.now.latches.items found h.latches)
    (λ counts symbols h free named. record {
      latches = named ∙ sym (names_of-set symbols own counts.latches c.args.names.now.latches.items h.latches free);
      inputs = h.inputs ∙ sym (names_of-other symbols own 105 counts.inputs (λ i. refl));
      outputs = h.outputs ∙ sym (names_of-other symbols own 111 counts.outputs (λ i. refl));
      bads = h.bads ∙ sym (names_of-other symbols own 98 counts.bads (λ i. refl));
    })

pub returns-in-108-clause-fault : goal.returns-in-108-clause-fault
returns-in-108-clause-fault c =
    let own : Symbol = record { letter = 108; position = c.in-Some.position; name = c.in-Some.name.now } in
    let found : symbol_of c.args.line.now ≡ Some own = sym c.in-Some.ensures ∙ ap (λ z. Some (record { letter = z; position = c.in-Some.position; name = c.in-Some.name.now })) c.in-108.is in
    symbol-fault (λ counts symbols. HasNames counts symbols c.args.names.now) _ own (is_free c.args.names.now.latches.items c.in-Some.position) c.give_name-in-108.result c.give_name-in-108.ensures.read
    (λ counts symbols h. symbol_in-free counts symbols _ own c.args.names.now.latches.items found h.latches)

pub returns-in-111-clause-named : goal.returns-in-111-clause-named
returns-in-111-clause-named c =
    let new : NameTable = record { inputs = c.args.names.now.inputs; latches = c.args.names.now.latches; outputs = c.give_name-in-111.new.names; bads = c.args.names.now.bads } in
    let own : Symbol = record { letter = 111; position = c.in-Some.position; name = c.in-Some.name.now } in
    let found : symbol_of c.args.line.now ≡ Some own = sym c.in-Some.ensures ∙ ap (λ z. Some (record { letter = z; position = c.in-Some.position; name = c.in-Some.name.now })) c.in-111.is in
    symbol-named (λ counts symbols. HasNames counts symbols c.args.names.now) (λ counts symbols. HasNames counts symbols new) _ own (is_free c.args.names.now.outputs.items c.in-Some.position) _ c.give_name-in-111.result c.give_name-in-111.ensures.read c.give_name-in-111.ensures.named
    (λ counts symbols h. symbol_in-free counts symbols _ own c.args.names.now.outputs.items found h.outputs)
    (λ counts symbols h free named. record {
      outputs = named ∙ sym (names_of-set symbols own counts.outputs c.args.names.now.outputs.items h.outputs free);
      inputs = h.inputs ∙ sym (names_of-other symbols own 105 counts.inputs (λ i. refl));
      latches = h.latches ∙ sym (names_of-other symbols own 108 counts.latches (λ i. refl));
      bads = h.bads ∙ sym (names_of-other symbols own 98 counts.bads (λ i. refl));
    })

pub returns-in-111-clause-fault : goal.returns-in-111-clause-fault
returns-in-111-clause-fault c =
    let own : Symbol = record { letter = 111; position = c.in-Some.position; name = c.in-Some.name.now } in
    let found : symbol_of c.args.line.now ≡ Some own = sym c.in-Some.ensures ∙ ap (λ z. Some (record { letter = z; position = c.in-Some.position; name = c.in-Some.name.now })) c.in-111.is in
    symbol-fault (λ counts symbols. HasNames counts symbols c.args.names.now) _ own (is_free c.args.names.now.outputs.items c.in-Some.position) c.give_name-in-111.result c.give_name-in-111.ensures.read
    (λ counts symbols h. symbol_in-free counts symbols _ own c.args.names.now.outputs.items found h.outputs)

pub returns-in-98-clause-named : goal.returns-in-98-clause-named
returns-in-98-clause-named c =
    let new : NameTable = record { inputs = c.args.names.now.inputs; latches = c.args.names.now.latches; outputs = c.args.names.now.outputs; bads = c.give_name-in-98.new.names } in
    let own : Symbol = record { letter = 98; position = c.in-Some.position; name = c.in-Some.name.now } in
    let found : symbol_of c.args.line.now ≡ Some own = sym c.in-Some.ensures ∙ ap (λ z. Some (record { letter = z; position = c.in-Some.position; name = c.in-Some.name.now })) c.in-98.is in
    symbol-named (λ counts symbols. HasNames counts symbols c.args.names.now) (λ counts symbols. HasNames counts symbols new) _ own (is_free c.args.names.now.bads.items c.in-Some.position) _ c.give_name-in-98.result c.give_name-in-98.ensures.read c.give_name-in-98.ensures.named
    (λ counts symbols h. symbol_in-free counts symbols _ own c.args.names.now.bads.items found h.bads)
    (λ counts symbols h free named. record {
      bads = named ∙ sym (names_of-set symbols own counts.bads c.args.names.now.bads.items h.bads free);
      inputs = h.inputs ∙ sym (names_of-other symbols own 105 counts.inputs (λ i. refl));
      latches = h.latches ∙ sym (names_of-other symbols own 108 counts.latches (λ i. refl));
      outputs = h.outputs ∙ sym (names_of-other symbols own 111 counts.outputs (λ i. refl));
    })

pub returns-in-98-clause-fault : goal.returns-in-98-clause-fault
returns-in-98-clause-fault c =
    let own : Symbol = record { letter = 98; position = c.in-Some.position; name = c.in-Some.name.now } in
    let found : symbol_of c.args.line.now ≡ Some own = sym c.in-Some.ensures ∙ ap (λ z. Some (record { letter = z; position = c.in-Some.position; name = c.in-Some.name.now })) c.in-98.is in
    symbol-fault (λ counts symbols. HasNames counts symbols c.args.names.now) _ own (is_free c.args.names.now.bads.items c.in-Some.position) c.give_name-in-98.result c.give_name-in-98.ensures.read
    (λ counts symbols h. symbol_in-free counts symbols _ own c.args.names.now.bads.items found h.bads)

pub returns-in_default-letter-clause-fault : goal.returns-in_default-letter-clause-fault
returns-in_default-letter-clause-fault c = λ counts symbols h. symbol_in-kindless counts symbols _ _ (sym c.in-Some.ensures) (search rules) (search rules) (search rules) (search rules)
