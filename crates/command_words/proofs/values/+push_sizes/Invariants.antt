use Rattle.command_words.proofs.values.+push_sizes.Given as goal

abbrev pub decreases-push_sizes : goal.decreases-push_sizes
decreases-push_sizes l = l.most
