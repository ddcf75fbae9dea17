mod AskPlan
