use Rattle.value_pickle.proofs.Shortest.{value_of_number, shortest_number, number_at_most}
use Rattle.value_pickle.proofs.laws.numbers_are_shortest.Goals as goal

pub returns-clause-value : goal.returns-clause-value
returns-clause-value c = value_of_number

pub returns-clause-shortest : goal.returns-clause-shortest
returns-clause-shortest c = shortest_number

pub returns-clause-at_most : goal.returns-clause-at_most
returns-clause-at_most c = number_at_most
