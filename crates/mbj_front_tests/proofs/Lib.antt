mod NullJobs
