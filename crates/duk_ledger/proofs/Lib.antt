mod SaidIssues
