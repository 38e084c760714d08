use Rattle.preambles.proofs.ValueLemmas.{address_blind, addresses_blind, command_alone, host_blind, name_blind, password_blind, user_blind, value_blind}
use Rattle.preambles.proofs.laws.values_have_no_influence.Goals as goal

pub returns-clause-value : goal.returns-clause-value
returns-clause-value c = value_blind

pub returns-clause-arguments : goal.returns-clause-arguments
returns-clause-arguments c = command_alone

pub returns-clause-name : goal.returns-clause-name
returns-clause-name c = name_blind

pub returns-clause-password : goal.returns-clause-password
returns-clause-password c = password_blind

pub returns-clause-user : goal.returns-clause-user
returns-clause-user c = user_blind

pub returns-clause-host : goal.returns-clause-host
returns-clause-host c = host_blind

pub returns-clause-address : goal.returns-clause-address
returns-clause-address c = address_blind

pub returns-clause-addresses : goal.returns-clause-addresses
returns-clause-addresses c = addresses_blind
